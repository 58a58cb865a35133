-- Laws of pairs and of what is gathered of them.
pub mod Pairs
pub mod Gathering
pub mod Types
pub mod Counts
pub mod Loops

-- Laws of the rules on how many of a kind there may be.
pub mod Limits

pub mod Catalogue
pub mod Refusals
pub mod Lookups
pub mod Sound
pub mod Answers
pub mod Walks

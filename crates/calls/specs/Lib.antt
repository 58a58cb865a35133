pub mod Answers
pub mod Gave
pub mod Output

pub mod Groups
pub mod Limits
pub mod Rows

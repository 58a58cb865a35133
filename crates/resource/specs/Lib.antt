pub mod Resource
pub mod Rows

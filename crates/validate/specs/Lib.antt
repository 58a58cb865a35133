pub mod Kind
pub mod Skills
pub mod Validate

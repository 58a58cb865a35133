pub mod Kept
pub mod Trimmed

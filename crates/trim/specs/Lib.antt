pub mod Trim
pub mod Marked
pub mod Parts
pub mod Windows
pub mod Trimmers
pub mod Kept

pub mod Context
pub mod Gathered
pub mod Held

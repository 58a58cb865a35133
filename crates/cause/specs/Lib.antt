pub mod Cause
pub mod Members
pub mod Decided

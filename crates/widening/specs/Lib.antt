pub mod Old
pub mod Widen

pub mod Item
pub mod Ids
pub mod Flags

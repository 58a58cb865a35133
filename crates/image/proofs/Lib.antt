-- Laws of numbers in bytes.
pub mod Signs
pub mod Stores
pub mod Puts
pub mod Parts

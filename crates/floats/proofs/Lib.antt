-- Laws that belong to no one function, lowest first.
pub mod Bits
pub mod Casts
pub mod Sizes
pub mod Order
pub mod Rounding
pub mod Sums
pub mod Products
pub mod Loads

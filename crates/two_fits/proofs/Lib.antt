-- What contracts leave is what the promises speak of.
pub mod Left
pub mod Trims

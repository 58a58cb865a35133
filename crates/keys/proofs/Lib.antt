-- Laws of keys: the order of signed numbers by their ranks, searches, and keys in a part of a slice.
pub mod Ranks
pub mod Orders
pub mod Parts
pub mod Skips

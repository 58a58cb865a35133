-- Laws of marks: bits of words, and what a store and a search do.
pub mod Bits
pub mod Places

-- Laws of the enums: their casts, and the numbers of refusals.
pub mod Casts
pub mod Refused

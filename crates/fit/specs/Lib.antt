pub mod Fit
pub mod Refusals
pub mod Lookups
pub mod Sound

pub mod Training
pub mod Turns
pub mod Plans

pub mod LeaveOut
pub mod Bits
pub mod Held

pub mod Slot
pub mod AtPair

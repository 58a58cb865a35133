pub mod Profile
pub mod Sound

pub mod Skill
pub mod Wanted
pub mod Held

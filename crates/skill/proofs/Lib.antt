-- Laws of what is required, of noting skills, of the walk, and of its entries.
pub mod Places
pub mod Zips
pub mod Requirements
pub mod Noting
pub mod Walks
pub mod Limits
pub mod Notes
pub mod Reports
pub mod Walking
pub mod Onces
pub mod Together

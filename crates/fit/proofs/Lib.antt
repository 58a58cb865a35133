-- Laws of fits: what the decoded lists hold, when a fit is sound, and what that says of its fields.
pub mod Decoded
pub mod Soundness
pub mod Searches

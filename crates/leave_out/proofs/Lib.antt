-- Laws of what is left out: which sets are good, by the fit's own list; sets by their numbers; what the tries leave; sets as bits, rows of
-- named entries, and what the code finds.
pub mod Named
pub mod Sets
pub mod Tries
pub mod Surplus
pub mod Sharing
pub mod Marking
pub mod Rowing
pub mod Trying
pub mod Turning
pub mod Naming
pub mod Listing
pub mod Racking
pub mod Writing
pub mod Leaving

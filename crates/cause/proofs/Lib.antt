-- Laws of causes: when a part shows an entry, by its rule; what is left in the end; and what the code finds of that.
pub mod Showing
pub mod Steady
pub mod Listed
pub mod Staying
pub mod Looking
pub mod Choosing
pub mod Breaking
pub mod Volumes
pub mod Entries
pub mod Trying
pub mod Numbering
pub mod ReadBack
pub mod Caused

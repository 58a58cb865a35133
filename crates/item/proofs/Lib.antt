-- Laws of the rules on items.
pub mod Tests
pub mod Marking
pub mod Flags
pub mod Listings
pub mod Rules

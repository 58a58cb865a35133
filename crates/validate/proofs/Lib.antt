-- Laws of what kind a type is, of the rules on a fit as a whole, and of the list.
pub mod Tests
pub mod Hull
pub mod Empty

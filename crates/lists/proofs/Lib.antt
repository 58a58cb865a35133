-- Laws of the whole list.
pub mod Unknowns
pub mod Numbers
pub mod Guests
pub mod Behind
pub mod Few
pub mod Empty

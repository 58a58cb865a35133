-- Laws of slots: what the code of each check tells, of an item, of those beside it and of its attributes.
pub mod Checks
pub mod Sharing
pub mod Numbers
pub mod Placing

-- Laws of the text that is printed.
pub mod Room

-- What the call's word and buffer say of so short an image.
pub mod Printing

-- Laws of the sums over pairs, of the table of loads, and of what the rules say by their names.
pub mod Sums
pub mod Rows
pub mod Named

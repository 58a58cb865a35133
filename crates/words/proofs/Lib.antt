-- Laws of the words: what one more element does to each, tables, their elements, walks over them, lengths, and ids that are the same.
pub mod Steps
pub mod All
pub mod Tables
pub mod Elements
pub mod Walks
pub mod Lengths
pub mod Sames
pub mod Ids

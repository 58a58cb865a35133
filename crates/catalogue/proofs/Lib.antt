-- Laws of catalogues: blocks and their keys, what a sound one is, and its lookups.
pub mod Tables
pub mod Sound
pub mod Reading
pub mod Finding
pub mod Walking

-- Laws of entries: their bytes, and code that writes them.
pub mod Bytes
pub mod Wrote
pub mod Emitted

-- Laws of widening: what is judged in the old form, the bytes that are written, and that they decode to the old records.
pub mod Judging
pub mod Bytes
pub mod Decoding

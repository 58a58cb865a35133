-- Laws of training: what raising a level does, all steps at once, skills held in arrays, one stored in them, turns in them, the
-- image with other skills, who is counted for refusal 16, the call, what is missing, how many are listed, their range, what the image decodes to, what it copies.
pub mod Raising
pub mod Stepping
pub mod Places
pub mod Opening
pub mod Arrays
pub mod Turning
pub mod Writing
pub mod Counting
pub mod Calling
pub mod Lacking
pub mod Room
pub mod Ranges
pub mod Decoding
pub mod Copying

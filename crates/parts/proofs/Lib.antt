-- Laws of parts of a fit: sets of pairs as flags, the words of the definitions over a list whose elements are changed one by one, a
-- part's pairs numbered anew, a part's list, pairs that are taken off in turn.
pub mod Flags
pub mod Beside
pub mod Numbered
pub mod Renumbered
pub mod Thinning

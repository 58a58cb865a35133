-- Laws of a league's rules: what one pair more adds, and that nothing comes without a profile.
pub mod Tallies
pub mod Without

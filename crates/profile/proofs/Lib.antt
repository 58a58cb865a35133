-- Laws of league profiles: when one is not refused, and what a search of its groups says.
pub mod Accepted
pub mod Prices

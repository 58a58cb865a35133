-- Laws of text put into a buffer, and of counts.
pub mod Decimal

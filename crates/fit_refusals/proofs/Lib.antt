-- Laws of the refusals: each one from the tests of the code.
mod Refused

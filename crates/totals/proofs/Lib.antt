-- Laws of the loops over a word's digits and over words.
pub mod Digits
pub mod Listed

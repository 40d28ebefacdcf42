-- Sheets written from a list of numbers.
pub mod Lists
pub mod Answers
pub mod Claims

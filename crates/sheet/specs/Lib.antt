-- The lot sheet: what its bytes say, the questions put to it, and what the functions that read it answer.
pub mod Sheets
pub mod Tables
pub mod Questions
pub mod Refusals
pub mod Claims
pub mod Answers

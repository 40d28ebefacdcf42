-- Trial sheets, drawn from a generator.
pub mod Worths
pub mod Asked
pub mod Answers
pub mod Claims

-- What the direct way answers.
pub mod Answers

-- What the functions on the way to an answer say.
pub mod Steps

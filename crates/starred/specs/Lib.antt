-- The starred sales, and the printed examples.
pub mod Starred
pub mod Example

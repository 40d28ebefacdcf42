-- The three demands, of what the public functions answer, and what meets the conditions of theorems.
pub mod Claims
pub mod Witnesses

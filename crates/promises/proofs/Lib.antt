-- The three demands, one after the other, and together; what meets the conditions of theorems.
pub mod First
pub mod Second
pub mod Third
pub mod Promises
pub mod Witnesses

-- The questions of a list in their order (Asking, Questions), its numbers line by line (Rows) and place by place
-- (Cells), what is answered (Answers), the round trips (Trips), what bounds a list (Limits), what is printed (Texts), and all theorems (Writes).
pub mod Asking
pub mod Rows
pub mod Cells
pub mod Questions
pub mod Answers
pub mod Trips
pub mod Limits
pub mod Texts
pub mod Writes

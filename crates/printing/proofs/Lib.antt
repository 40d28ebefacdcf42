-- Laws of printed numbers (Columns) and lines (Lines), and of lines of two or four numbers (Fours).
pub mod Columns
pub mod Lines
pub mod Fours

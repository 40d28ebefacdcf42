-- The worths of a sheet (Places, Valued), what questions 6 to 8 find (Lines, Nowhere), the order of questions (Firsts,
-- Faults), what is known of every sheet (Theorems), answers made of a fault (Forms), sheets that are too long (Long),
-- the bytes of a sheet's numbers (Writing), sheets in which they are written (Accepting), and tables of worths as
-- sheets (Tables).
pub mod Places
pub mod Lines
pub mod Valued
pub mod Nowhere
pub mod Firsts
pub mod Faults
pub mod Theorems
pub mod Forms
pub mod Long
pub mod Writing
pub mod Accepting
pub mod Tables

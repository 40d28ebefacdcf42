-- A text put into a buffer in parts (Parts), numbers that fit (Fits), the ways out of printing (Printing), and the text
-- of a sheet (Texts).
pub mod Parts
pub mod Fits
pub mod Printing
pub mod Texts

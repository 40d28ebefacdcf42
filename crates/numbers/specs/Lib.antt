-- Bounds and bits.
pub mod Numbers

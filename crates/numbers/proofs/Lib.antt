-- Laws of powers and products (Numbers), and of bit sets (Subsets).
pub mod Numbers
pub mod Subsets

-- The ways out of a demand answer (Demanding), of a sale (Selling), and of the question whether prices are settled
-- (Settling).
pub mod Demanding
pub mod Selling
pub mod Settling

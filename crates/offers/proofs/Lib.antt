-- Laws of economies, of demand, of supply.
pub mod Economies
pub mod Demanding
pub mod Supplying
pub mod Present
pub mod Theorems
pub mod Kept
pub mod Claimed
pub mod Lots
pub mod Places
pub mod Outcomes
pub mod House

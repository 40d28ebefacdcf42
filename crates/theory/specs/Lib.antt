-- The definitions of an ascending auction over an abstract market: read Markets, Auction, Universal, Coalitions, Kept.
-- Sums, Tests, Lists and Rounds are what these are written with.
pub mod Sums
pub mod Tests
pub mod Lists
pub mod Markets
pub mod Rounds
pub mod Auction
pub mod Universal
pub mod Coalitions
pub mod Kept

-- The mathematics of an ascending auction. Sums, Tests, Lists, Loops, Arrays and Rounds have the laws of the tools;
-- Duality, Payments, NoGain, Auction, Alike and Settled hold at any prices, Ascent, Sale, Coalitions and Kept at a
-- sale's own; Universal and Outcome say what a sale comes to, and Example reckons one.
pub mod Sums
pub mod Tests
pub mod Lists
pub mod Loops
pub mod Arrays
pub mod Over
pub mod Rounds
pub mod Duality
pub mod Payments
pub mod NoGain
pub mod Ascent
pub mod Auction
pub mod Alike
pub mod Settled
pub mod Sale
pub mod Universal
pub mod Outcome
pub mod Coalitions
pub mod Kept
pub mod Example

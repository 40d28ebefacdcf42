-- Owner lists make an auction (Owners, Order, Bits, Economies, Ready), a list of prices a sale (Prices, Sales), by
-- coalition values too (Quick). Singles has what comes of it for the sale of the rules.
pub mod Owners
pub mod Order
pub mod Bits
pub mod Economies
pub mod Ready
pub mod Prices
pub mod Sales
pub mod Quick
pub mod Singles

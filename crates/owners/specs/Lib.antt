-- Owner lists and price lists as an instance of the theory, and the sale of the rules among them. Read Owners, Prices,
-- Sales, Singles; Quick has the rounds as the code takes them.
pub mod Owners
pub mod Prices
pub mod Sales
pub mod Quick
pub mod Singles

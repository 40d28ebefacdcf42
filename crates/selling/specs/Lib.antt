-- How a sale's answer is put together.
pub mod Selling

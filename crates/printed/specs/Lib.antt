-- The printed sale.
pub mod Printed

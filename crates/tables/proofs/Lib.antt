-- Laws of what stands in a table.
pub mod Tables

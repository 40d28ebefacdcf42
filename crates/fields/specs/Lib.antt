-- The fields of a lot sheet.
pub mod Fields
pub mod Claims

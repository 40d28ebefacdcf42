-- Laws of fields: bytes, and what each does to a reading (Scan); the digits of a number (Digits), and in which columns
-- it is written (Canonical); the sum of a field's digits, and what is claimed of it (Sums); the loop over the columns
-- (Columns); written lines (Lines); numbers in fields, one after another (Listed).
pub mod Scan
pub mod Digits
pub mod Canonical
pub mod Sums
pub mod Columns
pub mod Lines
pub mod Listed

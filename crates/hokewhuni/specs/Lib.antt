-- What crosses the C boundary.
pub mod Boundary

-- Places of a sheet's lines.
pub mod Places

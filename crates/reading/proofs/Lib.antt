-- Laws of questions 1 to 5 (Asking), of reading a sheet whole (Reading), and of what its answer says (Told).
pub mod Asking
pub mod Reading
pub mod Told

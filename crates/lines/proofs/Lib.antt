-- Laws of one lot of a bundle (Places), and of the questions put to each place of the lines (Asking).
pub mod Places
pub mod Asking

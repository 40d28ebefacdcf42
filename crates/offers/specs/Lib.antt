-- What is on offer (Offers), its sale and the direct way (Rounds), what is claimed of them (Claims), the places of an
-- answer (Places), and worked sales with a house (House).
pub mod Offers
pub mod Rounds
pub mod Claims
pub mod Places
pub mod House

-- The words of the direct way (Reckoning), its ways out (Answering), and what its answers say (Opening).
pub mod Reckoning
pub mod Answering
pub mod Opening

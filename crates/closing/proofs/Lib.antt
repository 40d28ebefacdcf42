-- The closing whole (Closings); what closes an economy, and what it supplies (Supplies).
pub mod Closings
pub mod Supplies

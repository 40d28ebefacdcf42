-- The closing: owners, discounts, payments (Closings); what each economy supplies (Supplies).
pub mod Closings
pub mod Supplies

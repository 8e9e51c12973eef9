-- Rows of rules, and what sealing them does.
pub mod Rows
pub mod Sealing

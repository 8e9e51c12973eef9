-- Clause lists, their plans, and what their clauses force.
pub mod Clauses
pub mod Sounds
pub mod Listing
pub mod Cases

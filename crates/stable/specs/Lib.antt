-- Rulebooks, their plans, and what the five rules force.
pub mod Books
pub mod Decide
pub mod Laws
pub mod Cases

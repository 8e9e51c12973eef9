-- Statements that hold in every plan.
pub mod Certain

-- Which refusal comes first.
pub mod View
pub mod Named
pub mod Checks

-- The vocabulary of sources: plans, questions, the numbers of refusals.
pub mod Plans
pub mod Numbers
pub mod Asked

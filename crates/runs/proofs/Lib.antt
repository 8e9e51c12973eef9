-- Lemmas on runs.
pub mod Running

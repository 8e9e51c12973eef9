-- Lemmas on the group of one statement.
pub mod Marking

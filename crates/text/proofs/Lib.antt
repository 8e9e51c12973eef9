-- Lemmas on scanning.
pub mod Scanning

-- Lemmas of the narrowed base.
pub mod Narrowing

-- Lemmas of the walk.
pub mod Loops
pub mod Stepping
pub mod Looking
pub mod Finding

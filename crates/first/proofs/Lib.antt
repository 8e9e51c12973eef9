-- Undecided statements, the first plan, and turns.
pub mod Zeros
pub mod Firsts
pub mod Turns

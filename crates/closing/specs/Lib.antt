-- The closure of rules that force decisions, and the base that it makes.
pub mod Sets
pub mod Forces
pub mod Closures
pub mod Turns
pub mod Fews

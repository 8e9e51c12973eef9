pub mod Turns
pub mod Computed

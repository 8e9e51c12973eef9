pub mod Theory
pub mod Bridge
pub mod Plans
pub mod Forced
pub mod Lawfuls
pub mod Computed

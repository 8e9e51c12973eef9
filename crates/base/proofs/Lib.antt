pub mod Partials
pub mod Settling

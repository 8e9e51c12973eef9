-- The rulebook base.
pub mod Bodiless
pub mod Tables
pub mod Sealed
pub mod ByRules

-- The law over uses and what it stands on.
pub mod Model
pub mod Way
pub mod Text
pub mod Step
pub mod Use
pub mod Law

-- A small base for tests: the plans in which some statement holds.
pub mod SomeHolds
pub mod Laws

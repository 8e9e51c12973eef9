-- The first plan that agrees with pins, and what the steps of the walk promise.
pub mod Finding
pub mod Turning

pub mod Converting
pub mod Extending

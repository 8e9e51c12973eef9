pub mod Steps
pub mod Loops
pub mod Marks
pub mod Supported
pub mod Sealed
pub mod Chaining
pub mod Tables

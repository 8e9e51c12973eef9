pub mod Both
pub mod Output

-- The sheet as the definitions have it.
pub mod View
pub mod Asks

-- What a base is, and what its plans make certain.
pub mod Laws
pub mod Extending
pub mod Settled

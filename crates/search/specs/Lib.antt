-- What the search promises.
pub mod Asking

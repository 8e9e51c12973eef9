pub mod Passes
pub mod Deciding
pub mod Answering

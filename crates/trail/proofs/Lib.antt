-- An agenda under an extension, a split and a step back.
pub mod States

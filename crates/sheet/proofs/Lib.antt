-- The calls of the sheet keep the law.
pub mod Asking
pub mod Settling
pub mod Beginning
pub mod Pinning
pub mod Naming
pub mod Rows
pub mod Keeping

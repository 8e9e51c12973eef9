-- The code of drafts, as the definitions of tables have it.
pub mod View
pub mod Stages
pub mod Counted
pub mod Seals

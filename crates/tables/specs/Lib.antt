-- Rule texts: their grammar, the tables that reading fills, and the law of reading.
pub mod Limits
pub mod Numbers
pub mod Names
pub mod Feed
pub mod Reading
pub mod Draft
pub mod Grammar
pub mod Beginnings
pub mod Only
pub mod Meaning
pub mod Room
pub mod Law
pub mod Cases

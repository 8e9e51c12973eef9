-- Lemmas on rows and on joinings.
pub mod Listing
pub mod Joins
pub mod Widths

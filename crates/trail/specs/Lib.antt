-- An agenda of partials kept in three slices.
pub mod Walks

-- The first plan of a base below a partial, and the extensions that find it.
pub mod Tree
pub mod Agenda

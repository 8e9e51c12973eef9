-- From the first plan that meets the group to the first that serves.
pub mod Asking

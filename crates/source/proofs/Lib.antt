-- Lemmas that the tests on bytes share.
pub mod Causes

-- The definitions of `terms`.
pub mod Terms
pub mod Whole

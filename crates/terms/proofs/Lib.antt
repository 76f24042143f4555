-- The laws of `terms`.
pub mod Whole

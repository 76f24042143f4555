-- The laws of `sheets`.
pub mod Whole
pub mod Writing

-- The definitions of `plan`.
pub mod Reading
pub mod Writing
pub mod Demands

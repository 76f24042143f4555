-- The definitions of `lines`.
pub mod Reports
pub mod Reading
pub mod Writing
pub mod Demands

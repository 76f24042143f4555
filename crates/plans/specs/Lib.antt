-- The definitions of `plans`.
pub mod Plans
pub mod Demands

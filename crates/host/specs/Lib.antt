-- The definitions of `host`.
pub mod Host
pub mod Demands

-- The definitions of `nets`.
pub mod Nets

-- The definitions of `entries`.
pub mod Fields
pub mod Rows

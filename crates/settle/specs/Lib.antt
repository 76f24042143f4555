-- The definitions of `settle`.
pub mod Turns

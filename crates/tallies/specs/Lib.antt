-- The definitions of `tallies`.
pub mod Ceilings
pub mod Tallies

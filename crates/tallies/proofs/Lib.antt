-- The laws of `tallies`.
pub mod Calm
pub mod Lays
pub mod Sums

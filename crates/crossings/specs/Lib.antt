-- The definitions of `crossings`.
pub mod Pairs

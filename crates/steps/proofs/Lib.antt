-- The laws of `steps`.
pub mod Steps
pub mod Sums
pub mod Kept
pub mod Counting

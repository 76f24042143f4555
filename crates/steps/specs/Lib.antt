-- The definitions of `steps`.
pub mod Steps
pub mod Kept

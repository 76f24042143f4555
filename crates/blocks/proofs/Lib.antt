-- The laws of `blocks`.
pub mod Terms
pub mod Looks

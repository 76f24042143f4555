-- The laws of `flows`.
pub mod Each
pub mod Arrays
pub mod Causes
pub mod Loops
pub mod Passed
pub mod Same

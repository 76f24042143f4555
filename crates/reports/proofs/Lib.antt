-- The laws of `reports`.
pub mod Lines
pub mod Made
pub mod Promises

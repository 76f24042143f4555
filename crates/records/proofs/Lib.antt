-- The laws of `records`.
pub mod Writing
pub mod RoundTrip
pub mod Rows

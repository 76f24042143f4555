-- The laws of `crossings`.
pub mod Meeting
pub mod Turns
pub mod Costs
pub mod Noting

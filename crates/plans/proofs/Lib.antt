-- The laws of `plans`.
pub mod Answers
pub mod Trips
pub mod Promises

-- The laws of `starts`.
pub mod Sums
pub mod Nodes
pub mod Climb
pub mod Steps
pub mod Kept
pub mod Tries
pub mod Only

-- The laws of `rounds`.
pub mod Rounds
pub mod Windows

-- The definitions of `rounds`.
pub mod Reading
pub mod Rounds
pub mod Windows

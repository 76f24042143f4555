-- The laws of `rules`.
pub mod Path
pub mod Grow
pub mod Busy
pub mod Start
pub mod Below
pub mod Settle
pub mod Crossing
pub mod Valid
pub mod Rounds
pub mod Judge
pub mod Withdraw
pub mod Exact
pub mod Whole
pub mod Shared
pub mod Agree

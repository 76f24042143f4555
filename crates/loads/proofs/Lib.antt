-- The laws of `loads`.
pub mod Whole
pub mod Climb

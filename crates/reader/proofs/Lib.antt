-- The laws of `reader`.
pub mod Places
pub mod Records

-- The laws of `ways`.
pub mod Noting

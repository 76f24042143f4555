-- The laws of `entries`.
pub mod Places
pub mod Link
pub mod Running
pub mod Rows

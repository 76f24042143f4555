-- The definitions of `reader`.
pub mod Places

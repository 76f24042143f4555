-- The definitions of `ways`.
pub mod Ways

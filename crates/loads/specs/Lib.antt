-- The definitions of `loads`.
pub mod Load

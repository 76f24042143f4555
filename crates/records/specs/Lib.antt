-- The definitions of `records`.
pub mod Kinds
pub mod Bodies
pub mod Rows

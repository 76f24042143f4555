-- The definitions of `blocks`.
pub mod Sheet

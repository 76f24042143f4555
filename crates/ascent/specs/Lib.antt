-- The definitions of `ascent`.
pub mod Good

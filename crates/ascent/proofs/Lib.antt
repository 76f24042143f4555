-- The laws of `ascent`.
pub mod Reading
pub mod Steps

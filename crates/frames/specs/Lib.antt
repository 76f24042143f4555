-- The definitions of `frames`.
pub mod Frames

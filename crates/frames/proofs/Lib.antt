-- The laws of `frames`.
pub mod Frames

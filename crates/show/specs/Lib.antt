-- The definitions of `show`.
pub mod Texts
pub mod Frames

-- The definitions of `drawing`.
pub mod Drawing

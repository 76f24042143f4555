-- The laws of `drawing`.
pub mod Drawing

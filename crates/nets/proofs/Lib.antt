-- The laws of `nets`.
pub mod Reading
pub mod Places
pub mod Sets

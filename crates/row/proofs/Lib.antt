-- The laws of `row`.
pub mod Arrays
pub mod Longer
pub mod Parts
pub mod Sets
pub mod Valid

-- The definitions of `table`.
pub mod Calls
pub mod Made
pub mod Demands

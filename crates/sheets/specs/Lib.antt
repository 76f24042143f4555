-- The definitions of `sheets`.
pub mod Sheets

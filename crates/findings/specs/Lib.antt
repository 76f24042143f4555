-- The definitions of `findings`.
pub mod Findings

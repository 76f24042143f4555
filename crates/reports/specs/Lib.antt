-- The definitions of `reports`.
pub mod Reports
pub mod Demands

-- The definitions of `engine`.
pub mod Verdicts
pub mod Firsts

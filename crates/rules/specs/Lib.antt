-- The definitions of `rules`.
pub mod Net
pub mod Formula
pub mod Meaning
pub mod Valid
pub mod Judge
pub mod Ready
pub mod Cases

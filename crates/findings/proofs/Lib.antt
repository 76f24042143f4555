-- The laws of `findings`.
pub mod Firsts

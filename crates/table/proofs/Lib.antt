-- The laws of `table`.
pub mod Nets
pub mod Kept
pub mod Figures
pub mod Sets
pub mod Calls
pub mod Withdrawals
pub mod Refusals
pub mod Ways
pub mod Promises

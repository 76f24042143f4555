-- The laws of `plan`.
pub mod Steps
pub mod Puts
pub mod Trips
pub mod Unread
pub mod Sets
pub mod Promises
pub mod Cases

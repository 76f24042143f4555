-- The laws of `lines`.
pub mod Arrays
pub mod Steps
pub mod Puts
pub mod Trips
pub mod Unread
pub mod Orders
pub mod Promises
pub mod Cases

-- The definitions of `flows`.
pub mod Refusals
pub mod Lists
pub mod Tests
pub mod WellFormed
pub mod Cases

-- The laws of `least`.
pub mod Count
pub mod Whole
pub mod Fold
pub mod Lists
pub mod Stores
pub mod Ranges
pub mod Fixed
pub mod Vector
pub mod Instants
pub mod Steps
pub mod Starts

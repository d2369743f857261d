pub mod Filtered
pub mod Depending
pub mod Working

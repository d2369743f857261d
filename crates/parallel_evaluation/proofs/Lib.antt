pub mod Tallies
pub mod Lists
pub mod Turning
pub mod Runs
pub mod Stopped
pub mod Openings
pub mod TestBooks

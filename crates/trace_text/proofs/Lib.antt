pub mod Counted
pub mod Taken

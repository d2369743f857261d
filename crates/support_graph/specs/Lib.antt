pub mod Blocks
pub mod Support
pub mod Pending
pub mod Steps

pub mod Scenarios
pub mod Tables

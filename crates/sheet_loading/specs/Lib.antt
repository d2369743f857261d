pub mod Contents
pub mod Sheets
pub mod Loaded
pub mod Faults
pub mod Laws
pub mod Steps

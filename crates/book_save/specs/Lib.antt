pub mod Fields
pub mod Rows
pub mod Laws
pub mod Loaded

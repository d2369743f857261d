pub mod Calling
pub mod Becoming
pub mod Keeping
pub mod Turning

pub mod Parts
pub mod Rounds
pub mod Sharing
pub mod Taking

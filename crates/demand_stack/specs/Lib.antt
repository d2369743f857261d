pub mod StackSeen
pub mod Open
pub mod Recall
pub mod Notes
pub mod Kept
pub mod Alone

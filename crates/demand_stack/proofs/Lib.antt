pub mod Searching
pub mod Recalls
pub mod Begins
pub mod Opened
pub mod Noted
mod Beside
pub mod Seeking
pub mod Keeping
pub mod Downward
pub mod Steps
pub mod Driving
pub mod Stepped

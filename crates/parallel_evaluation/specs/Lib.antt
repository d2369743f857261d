pub mod Summaries
pub mod Order
pub mod Workers
pub mod Turns
pub mod TestBooks

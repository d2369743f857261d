pub mod TraceText
pub mod Counting

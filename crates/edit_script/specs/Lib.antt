pub mod Pieces
pub mod Targets
pub mod Numbers
pub mod Rows
pub mod Lines

pub mod Moves
pub mod Ends
pub mod MovedBook
pub mod Pushed

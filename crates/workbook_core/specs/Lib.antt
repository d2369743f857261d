pub mod Held
pub mod Books
pub mod Edits
pub mod Faults
pub mod Copies
pub mod WithNumber
pub mod Apart

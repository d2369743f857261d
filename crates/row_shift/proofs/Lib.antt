pub mod Ranges
pub mod Ends
pub mod Parts
pub mod Formulas
pub mod Order
pub mod Untouched
pub mod Closed
pub mod Books

pub mod Records
pub mod SheetFacts
pub mod RowFacts
pub mod PlacedCells

pub mod Calculations
pub mod Edits
pub mod Standing
pub mod Written
pub mod Shifts

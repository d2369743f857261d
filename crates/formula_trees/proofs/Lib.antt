pub mod Mappings
pub mod Shifts

pub mod Spelling
pub mod Entries
pub mod Named
pub mod Lookup
pub mod There
pub mod Depths

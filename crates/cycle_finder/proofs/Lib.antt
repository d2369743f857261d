pub mod Trails
pub mod Around
pub mod Leading
pub mod Listing
pub mod Recalls
pub mod Found
pub mod Adding
pub mod Told

pub mod Loops
pub mod Laws
pub mod Search
pub mod Told

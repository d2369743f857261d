pub mod Trees
pub mod Keys
pub mod Stored
pub mod Laws

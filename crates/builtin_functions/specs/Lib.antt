pub mod Tables
pub mod Folds
pub mod Laws

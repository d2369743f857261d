pub mod Walk
pub mod Appended
pub mod Pushing
pub mod Moving
pub mod Fitting
pub mod Placed

pub mod Trees
pub mod Placed
pub mod Sequence
pub mod Checked
pub mod Adding
pub mod Filling

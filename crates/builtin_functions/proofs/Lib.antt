pub mod Exact
pub mod Walks
pub mod OrderLaws
pub mod DivisionLaws
pub mod WalkLaws

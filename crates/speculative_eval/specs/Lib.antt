pub mod Hinted
pub mod Performs
pub mod Machines
pub mod Workers
pub mod Steps
pub mod TestRound

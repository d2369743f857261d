pub mod Stacks
pub mod Machine
pub mod Evaluations
pub mod Laws
pub mod Client

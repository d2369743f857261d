pub mod Sheet
pub mod Place
pub mod Row

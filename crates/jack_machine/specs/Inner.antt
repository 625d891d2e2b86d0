pub mod Reached
pub mod Fronts

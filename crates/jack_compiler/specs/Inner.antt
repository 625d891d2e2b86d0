pub mod Named
pub mod Searched
pub mod Hollow
pub mod Added
pub mod Postfix
pub mod Surroundings

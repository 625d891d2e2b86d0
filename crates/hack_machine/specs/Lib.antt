pub mod Loaded
pub mod Turns
pub mod Changes

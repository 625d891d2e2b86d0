pub mod Heights
pub mod Calls

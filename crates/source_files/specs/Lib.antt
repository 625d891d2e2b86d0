pub mod Folder
pub mod Sources
pub mod Loads
pub mod Faults
pub mod Inner

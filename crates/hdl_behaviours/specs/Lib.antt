pub mod Clean
pub mod Levels
pub mod Laws
pub mod Existence
pub mod Loopless
pub mod Reads
pub mod Inner
pub mod Rows

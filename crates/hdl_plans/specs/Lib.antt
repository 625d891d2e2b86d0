pub mod Plans
pub mod Planned
pub mod Loops
pub mod Ways
pub mod Rows

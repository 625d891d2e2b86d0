pub mod Runs
pub mod Compose
pub mod Traces
pub mod Cycles
pub mod Following
pub mod Ways

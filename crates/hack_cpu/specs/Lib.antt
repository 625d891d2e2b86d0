pub mod Trees
pub mod Cpu
pub mod Computer
pub mod Library
pub mod Libraries
pub mod Pins
pub mod Dependencies
pub mod Existence

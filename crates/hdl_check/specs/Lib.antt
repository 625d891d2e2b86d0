pub mod Tables
pub mod Faults
pub mod Locations
pub mod Whole
pub mod Inner
pub mod Messages

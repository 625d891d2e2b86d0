pub mod Drives
pub mod Ways
pub mod Counting
pub mod Lines
pub mod Handed
pub mod Pixels

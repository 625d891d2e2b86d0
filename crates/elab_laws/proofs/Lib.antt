pub mod Drivers
pub mod Bits
pub mod Values
pub mod Same

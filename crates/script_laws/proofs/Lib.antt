pub mod Gathered
pub mod Chips
pub mod Devices
pub mod OneDevice
pub mod Acts
pub mod Exactly

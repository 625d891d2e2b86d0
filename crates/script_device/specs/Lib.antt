pub mod Directory
pub mod Variables
pub mod Simulated
pub mod Driven
pub mod Machines
pub mod Devices
pub mod Running
pub mod Inner

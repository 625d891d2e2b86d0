pub mod Brackets
pub mod Sources
pub mod Registers
pub mod Driving
pub mod Naming
pub mod Wanted
pub mod Numbers

pub mod Debugged
pub mod Shown

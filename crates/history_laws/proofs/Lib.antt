pub mod Acts
pub mod Hears
pub mod Shown
pub mod Given
pub mod Only
pub mod Worlds

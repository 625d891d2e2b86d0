pub mod Heights
pub mod Reading
pub mod Texts
pub mod Kept

pub mod Texts
pub mod Gone

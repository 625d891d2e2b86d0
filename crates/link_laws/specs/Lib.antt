pub mod First
pub mod Linking
pub mod Rows

pub mod Symbols
pub mod Assembly
pub mod Rows

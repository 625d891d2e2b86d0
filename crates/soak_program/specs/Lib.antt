pub mod Generator
pub mod Laws
pub mod Rows
pub mod Inner

pub mod Columns
pub mod Comparison
pub mod Rows
pub mod Inner

pub mod Limits
pub mod Long

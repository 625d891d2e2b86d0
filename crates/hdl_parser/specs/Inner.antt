pub mod Written
pub mod Long

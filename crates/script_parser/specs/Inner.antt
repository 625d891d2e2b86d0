pub mod Fits
pub mod Long

pub mod Bodies
pub mod Written
pub mod Long
pub mod Starts

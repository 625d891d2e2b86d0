pub mod Holding
pub mod Tallying

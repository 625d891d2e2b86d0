pub mod Own
pub mod Fine
pub mod Laws
pub mod Rows

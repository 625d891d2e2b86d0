pub mod Adders
pub mod Alu
pub mod Rows
pub mod Shifts

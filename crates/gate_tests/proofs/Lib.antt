pub mod Taken
pub mod Nand

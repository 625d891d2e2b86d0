pub mod Unplaced
pub mod Reprinted
pub mod Rows

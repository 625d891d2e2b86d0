pub mod Rows
pub mod Inside
pub mod Gates
pub mod Numbers
pub mod Words
pub mod Ways

pub mod Maps
pub mod Marks
pub mod Words

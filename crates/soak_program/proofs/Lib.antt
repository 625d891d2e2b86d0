pub mod Pieces
pub mod Sole
pub mod Short

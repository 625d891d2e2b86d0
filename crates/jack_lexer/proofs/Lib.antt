pub mod Ascii
pub mod Pieces
pub mod Stand
pub mod Longest

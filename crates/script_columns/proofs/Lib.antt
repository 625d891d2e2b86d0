pub mod Agreeing
pub mod Cutting
pub mod Numerals

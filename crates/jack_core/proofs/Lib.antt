pub mod Blocks
pub mod Postfix

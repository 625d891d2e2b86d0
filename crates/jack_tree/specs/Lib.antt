pub mod Tokens
pub mod Syntax
pub mod Seen
pub mod Kept

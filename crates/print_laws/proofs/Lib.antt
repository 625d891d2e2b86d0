mod Moves
mod Expressions
mod Classes
mod Limits
pub mod Reprinted

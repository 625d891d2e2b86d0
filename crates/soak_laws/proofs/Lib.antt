pub mod Pieces
pub mod Uses
pub mod Words
pub mod Expressions
pub mod Statements
pub mod Programs
pub mod Names
pub mod Resolved

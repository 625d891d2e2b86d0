pub mod Tokens
pub mod Numbers
pub mod Grammar
pub mod Trees
pub mod Inner
pub mod Rows
pub mod OneToken
pub mod Language

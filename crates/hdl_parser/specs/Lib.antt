pub mod Tokens
pub mod Grammar
pub mod Trees
pub mod Spells
pub mod Printed
pub mod OneToken
pub mod Language
pub mod Inner

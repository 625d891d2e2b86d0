pub mod Tokens
pub mod Faults
pub mod Grammar
pub mod Codes
pub mod OneToken
pub mod Language
pub mod Inner

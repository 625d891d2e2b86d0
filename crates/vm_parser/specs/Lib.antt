pub mod Roles
pub mod Tokens
pub mod Grammar
pub mod Trees
pub mod Printed
pub mod OneToken
pub mod Language
pub mod Inner

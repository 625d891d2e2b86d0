pub mod Text
pub mod View
pub mod Blanks

pub mod Views
pub mod Meanings
pub mod Places
pub mod Program
pub mod Numbers
pub mod Laws
pub mod Inner
pub mod Linked

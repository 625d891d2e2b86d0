pub mod Environment
pub mod Told
pub mod Laws

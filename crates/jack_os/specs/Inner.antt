pub mod Made
pub mod Sketched

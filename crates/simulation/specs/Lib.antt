pub mod System
pub mod Trace
pub mod Layers
pub mod Headline
pub mod Laws
pub mod Rows

pub mod Trees
pub mod Ends
pub mod Flat
pub mod Kept
pub mod Inner

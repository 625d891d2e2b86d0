pub mod Map
pub mod Computer
pub mod Turns
pub mod Tallies
pub mod Text
pub mod Inner

pub mod Writable
pub mod Chips
pub mod Memory
pub mod Behaviour

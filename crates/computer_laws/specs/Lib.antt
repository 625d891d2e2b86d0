pub mod Memory
pub mod Places
pub mod Down
pub mod Cycle

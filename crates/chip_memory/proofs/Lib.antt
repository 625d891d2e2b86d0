pub mod Registers
pub mod Counter
pub mod Blocks
pub mod Made
pub mod Rams

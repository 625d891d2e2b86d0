pub mod Sound
pub mod Moved
pub mod Elaborated
pub mod Orderly
pub mod Behaviour
pub mod Hearing
pub mod Faults
pub mod Directory

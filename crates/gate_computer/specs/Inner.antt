pub mod Told
pub mod Readable
pub mod Reading
pub mod Directory
pub mod Places

pub mod Listing
pub mod Told
pub mod Spelling
pub mod Names
pub mod Once
pub mod Failing

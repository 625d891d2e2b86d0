pub mod Counting
pub mod Longest
pub mod Search
pub mod Exactness
pub mod Exits
pub mod Faulty

pub mod Reading
pub mod History
pub mod Driven
pub mod Until
pub mod Words
pub mod Screen
pub mod Report

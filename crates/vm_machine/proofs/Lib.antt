pub mod Deaf
pub mod Ends
pub mod Histories
pub mod Kept
pub mod Laying
pub mod Making

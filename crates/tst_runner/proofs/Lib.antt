pub mod RowsTold
pub mod Lined
pub mod Firsts
pub mod Fits
pub mod Folders
pub mod Leading
pub mod Tabling
pub mod Ending
pub mod Images
pub mod Finding
pub mod Sounding
mod Joining
pub mod Threading
mod Closing
pub mod Passed
pub mod Kept
pub mod Compared
pub mod Performed
pub mod Loaded

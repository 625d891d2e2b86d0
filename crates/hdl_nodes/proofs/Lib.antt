pub mod Numbers
pub mod Ends
pub mod Numbered
pub mod Renamed

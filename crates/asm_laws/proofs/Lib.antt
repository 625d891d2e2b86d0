pub mod Lists
pub mod Labels
pub mod Past
pub mod Variables
pub mod Words
pub mod Law

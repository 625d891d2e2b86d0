pub mod Lists
pub mod First
pub mod Statics
pub mod Told
pub mod Law

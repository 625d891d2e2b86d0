pub mod Fixed

pub mod Parts
pub mod Reports
pub mod Prepared
pub mod Placed
pub mod SoakParts
pub mod Debugging

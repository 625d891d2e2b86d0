pub mod Inner
pub mod Made
pub mod Routines
pub mod System
pub mod RoutineTexts

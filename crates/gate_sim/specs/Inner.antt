pub mod Plans
pub mod Plain
pub mod Slots
pub mod Takes
pub mod Pieces
pub mod PackedState
pub mod Fits
pub mod Evaluated

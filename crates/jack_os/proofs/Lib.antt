pub mod Sketched
pub mod Seen
pub mod SystemTexts
pub mod Spelling

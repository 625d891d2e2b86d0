pub mod Marked
pub mod Checked
pub mod Seen
pub mod Progress
pub mod Stacks
pub mod Frames

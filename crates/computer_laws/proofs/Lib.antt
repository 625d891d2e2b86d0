pub mod Mapped
pub mod Down

pub mod Fits
pub mod Silent
pub mod Commits
pub mod Agreeing
pub mod Files
pub mod FewStatics
pub mod Unrefused

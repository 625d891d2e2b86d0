pub mod Exact
pub mod Answered
pub mod VmDoes

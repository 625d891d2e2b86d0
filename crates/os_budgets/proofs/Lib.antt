pub mod Closure
pub mod Statics
pub mod Budgets
pub mod EachFolder

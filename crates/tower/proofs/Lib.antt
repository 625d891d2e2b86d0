mod Words
mod Trees
mod Literals
pub mod Weights
mod Limits
pub mod Headline
pub mod Mapped
pub mod Computers
pub mod OwnFiles
pub mod VmRuns
pub mod NamedFaults
pub mod NamedSound
pub mod NamedExpressions
pub mod NamedStatements
pub mod NamedCounts
pub mod NamedBodies
pub mod NamedEntries
pub mod NamedFlat
pub mod NamedApart
pub mod NamedDots
pub mod NamedRows
pub mod NamedClasses
pub mod NamedProgram
pub mod Spelled
pub mod Completed
pub mod Beside
pub mod Programs
pub mod OneProgram
mod Long
pub mod Existing
pub mod BudgetWords
pub mod Budgets
pub mod BudgetRows

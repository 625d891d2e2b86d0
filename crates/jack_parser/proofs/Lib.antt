pub mod Terms
pub mod Arguments
pub mod Exits
pub mod StatementRules
pub mod Blocks
pub mod Parameters
pub mod TokensTold
pub mod Shown
pub mod Parts
pub mod Spaced
pub mod Blindness
mod WholeTexts
mod Saying
mod SeenTokens
pub mod PlainTrees
mod Reaching
mod Kept
pub mod SameTrees
pub mod Found
mod Building
mod BuiltExpressions
mod BuiltStatements
mod BuiltClasses
pub mod SameClass
pub mod Spelt
mod Rewritten
pub mod LawfulRules
pub mod ReadClasses
pub mod PlainTokens
mod SpellingTests
mod TreeClasses
pub mod Decided

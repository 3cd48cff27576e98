pub mod Variables
-- Patterns: the sorts of their variables, that each occurs once, and the values that they cover.
pub mod PatternSorts
pub mod LinearPatterns
pub mod CoveredValues
mod FittingPatterns
-- A pattern for a variable.
pub mod Replacements
pub mod ChildrenOfPatterns
mod CoverAnswers
-- The constructors of a sort.
pub mod SortConstructors
-- What the row `cover` says.
pub mod CoverSays

-- The one value of a sorted ground term.
pub mod OneValue
pub mod Examples
-- Weights of clauses, and one step of descent.
pub mod Weights
pub mod WeightLaws
pub mod SortedChildren
pub mod Descent

-- Lemmas: which variables tests find, questions with at most one answer, the variables of sorted
-- clauses, the entries of a match, what matching answers, and which equation leads.
pub mod AllItems
pub mod VariableTests
pub mod Determined
pub mod Variables
mod BoundEntries
mod Weights
mod TermLists
mod LeadingEquations
mod MarkedVariables
mod FittingSpines
mod SampleLists

-- Rows and their answers.
pub mod Ends
pub mod Alone
pub mod Counted
mod AloneRows
mod Simplified
mod Solved
mod NodeLists
mod TakenSteps
mod BlockAnswers
-- Clauses that a step refers to.
mod SortedTerms
mod RowAnswers
mod NamedGoals
mod MadeNodes
mod ReferredInstances
mod ReferredRows
mod TestableSides
mod ReplacedTerms
mod HeldChildren
mod Parts
mod Generalized

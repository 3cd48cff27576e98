-- When a specification is admitted, by which order, and by which ranks its proofs descend.
pub mod Admitted
pub mod Ranks
pub mod RuleUses
pub mod Examples
-- Clauses, their limits, their instances, tidying and comparing.
pub mod Clauses
pub mod Limits
pub mod ClauseInstances
pub mod Tidied
pub mod Taken
pub mod Multisets
pub mod Comparing
pub mod Failing
pub mod ClauseLaws
pub mod ClauseExamples
-- What the table of steps speaks of: equations, places, instances, and rows with their answers.
pub mod Equations
pub mod NumberedEquations
pub mod Places
pub mod Instances
pub mod Rows
pub mod Says
-- The rows, in the order of the table.
pub mod Clashes
pub mod Closing
pub mod Referred
pub mod Subsuming
pub mod RuleInstances
pub mod Rewriting
pub mod CaseSplitting
pub mod Simplifying
pub mod Solving
pub mod Patterns
pub mod Covering
pub mod Abstracting
pub mod Generalizing
pub mod Replacing
pub mod Steps
-- Laws of the table, and what it says of small clauses.
pub mod StepLaws
pub mod Insertion
pub mod ExampleClauses
pub mod TableExamples
pub mod ClosingExamples
pub mod SimplifyingExamples
pub mod CoveringExamples
pub mod ReplacingExamples
pub mod LimitExamples
pub mod StepExamples

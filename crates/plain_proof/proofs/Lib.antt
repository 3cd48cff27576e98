mod Samples
pub mod NarrowTerms
mod Replaced
-- Normal forms of sides, and how they close.
mod Walking
mod Matched
mod Pairs
-- The length of a case, of the cases of a variable, and the first variable.
mod OneSum
mod Lengths
mod SortCases
mod FirstVariables
-- The first step of a block.
pub mod RenamedTidying
pub mod CasesOfClauses
mod CoverSteps

-- First results, and what is left of a list.
pub mod Firsts
pub mod Left
-- One move of a candidate, one chosen move of a node, one block and one first proof.
pub mod Choices
pub mod Blocks
mod CandidateLists
pub mod DeterminedCandidates
pub mod OneProofs
-- Blocks are built by the table.
pub mod Built
pub mod BehindClaims
pub mod SameStart
-- Steps of blocks in reports.
mod StandingTerms
mod ShallowTerms
mod StandingSteps
mod StandingBlocks
-- What the definitions say of naturals with addition.
mod SumBlock
mod WorkedExamples

-- One step of each candidate, one chosen step, and one block.
mod OneUse
mod ReferenceTerms
mod OneCandidates
mod Chosen
mod Variables
mod BlockSteps
mod Following
mod OneBlocks
-- What the parts of the builder find.
mod Uses
mod TakenCandidates
mod FirstNodes
mod BuiltBlocks
mod Splits
mod FirstBlocks
-- Uses and pairs of terms under other numbers for the variables.
mod Renamings
mod OccurrencesAfterUses
mod NodePairs
-- What each step says at a clause of one equation.
mod Conditions
mod TrivialSteps
mod UseSteps
mod DecompositionSteps
mod ReferenceSteps
mod Matching
mod GoalInstances
-- Blocks, node by node.
mod StepBytes
mod Building
mod StrictBlocks
mod PendingNodes
mod NextSteps
mod ClaimBytes
mod GoalBlocks
-- Steps of blocks in reports.
mod StandingTerms
mod FewVariables
mod ShallowTerms
mod StandingBlocks

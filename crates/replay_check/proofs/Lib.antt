-- Blocks: steps that are taken, and clauses that are let go.
mod KeptClauses
mod TakenSteps
mod TestedBlocks
-- Values of refuted goals.
mod NamedValues
-- Claims.
mod TestedClaims

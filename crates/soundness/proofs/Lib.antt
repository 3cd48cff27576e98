-- Weights have no endless descent, so that no node of an accepted block fails.
mod Sinking
mod NoneFails
mod ProvedBlocks
-- Goals whose clauses don't fail are true, and claims in their order.
mod TrueGoals
mod TrueClaims
mod TrueReports

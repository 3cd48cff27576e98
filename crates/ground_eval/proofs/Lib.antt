-- Sides and verdicts of goals under values: for the layers above.
pub mod GoalSides
-- What only this crate's own proofs use.
pub mod Lists
pub mod Walks
pub mod Same
mod LentBanks
mod SharedSides
mod CodeLengths
mod FewCells
-- The case in which some variables have no value.
mod Marking
mod OpenTerms
mod OpenWalking
mod OpenPairs
mod Comparable
mod PartSorts
mod FixedSides
mod OpenGoals
mod PartGoals
mod EntrySteps
mod EntryPlaces
mod ConstantSorts
-- What the tests evaluate.
pub mod Samples

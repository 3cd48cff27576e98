-- Chains of uses by the parts of terms: for the layers above.
pub mod NormalTerms
pub mod Chains
pub mod OneRun
-- What only this crate's own proofs use.
pub mod FirstRules
pub mod Fine
pub mod Rests
pub mod Steps
pub mod Falls
pub mod Searching

-- Lemmas for the layers above: how matches are put together, and entries before a match.
pub mod Extending
pub mod BoundEntries
-- What only this crate's own proofs use.
mod Larger
mod SampleMatches

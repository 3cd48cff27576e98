-- The blocks of plain proofs: the step of each node, the block, and that there is one.
pub mod Choices
pub mod Blocks
pub mod Laws
pub mod StandingBlocks
pub mod Plain
-- What only this crate's own contracts speak of.
pub mod Candidates

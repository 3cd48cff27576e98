-- Routine proofs, in the order in which to read them.
pub mod First
pub mod Candidates
pub mod Ways
pub mod Entries
pub mod Blocks
pub mod Routine
pub mod Laws
pub mod Standing
pub mod Examples

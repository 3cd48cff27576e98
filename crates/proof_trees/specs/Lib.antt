-- Proofs as they are shown, in the order in which to read them.
pub mod Trees
pub mod Nodes
pub mod Shown
-- What only this crate's own contracts speak of.
pub mod Blocks
pub mod Pendings
pub mod Firsts

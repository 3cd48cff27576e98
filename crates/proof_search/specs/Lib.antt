-- What the search answers.
pub mod Guided
-- What only this crate's own contracts speak of: a block that is being built, and the step that a
-- node of it takes.
pub mod FallingSides
pub mod Settings
pub mod Leading
pub mod SideSpines
pub mod Building
pub mod Taking
pub mod Numbers
pub mod Ruling
pub mod Referring
pub mod Falling
pub mod Chosen
-- Blocks that are built from a start, and which of them are proofs.
pub mod Starting
pub mod Proving
-- Proofs whose blocks keep limits, and the nodes at which the search for one stops.
pub mod Bounding
pub mod Stuck
pub mod Walks

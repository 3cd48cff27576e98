-- Test sets, and what is answered when patterns are put for a variable.
pub mod TestSets
pub mod Covers
pub mod Laws
pub mod Examples
-- What only this crate's own contracts speak of.
pub mod Children
pub mod Numbering

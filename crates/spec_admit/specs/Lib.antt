-- What is tested, and which fault is the first.
pub mod Tests
pub mod FirstFault
-- What an admitted specification is, and has.
pub mod Admission
pub mod LeftSides
-- The laws, and examples.
pub mod Laws
pub mod Examples
-- What only this crate's own contracts speak of.
pub mod Parts

-- The definitions of plain proofs, in the order in which to read them.
pub mod Limits
pub mod Cases
pub mod Closings
pub mod PlainProofs
pub mod FirstPlain
pub mod Laws
pub mod FirstSteps
pub mod Examples
-- What only this crate's own contracts speak of.
pub mod Staying
pub mod Filling
pub mod ClosingAnswers
pub mod CaseAnswers

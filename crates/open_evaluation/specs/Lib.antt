-- Specifications with further constants, and terms written with the numbers that symbols have there.
pub mod Shifted
pub mod ConstantLaws
pub mod ConstantExamples
-- The walk of a verdict when some variables have no value, in the order in which to read it.
pub mod OpenGives
pub mod OpenVerdict
pub mod WalkLaws
pub mod WalkExamples
-- What only this crate's own contracts speak of.
pub mod Marks

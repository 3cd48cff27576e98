-- What the public contracts speak of, beside spec_core's definitions.
pub mod Evals
pub mod Sides
pub mod Prepared
pub mod Trials
pub mod Laws
pub mod Opened
pub mod Looked
-- What only this crate's own contracts speak of when some variables have no value.
pub mod Constants
pub mod OpenSides
pub mod ConstantSorts
pub mod Entries
-- What the tests evaluate.
pub mod Samples

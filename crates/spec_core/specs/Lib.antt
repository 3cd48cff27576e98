-- The definitions that a reader of any answer of the prover has to believe, in the order in which to read them.
pub mod Sig
pub mod Sorts
pub mod Small
pub mod Declarations
pub mod Orders
pub mod WellSorted
pub mod RuleSizes
pub mod Gives
pub mod Truth
pub mod Linear
pub mod Overlap
pub mod Groups
pub mod Covering
pub mod Verdict
pub mod Order
pub mod TermText
pub mod Laws
pub mod Naturals
pub mod Shapes
pub mod RuleTables
pub mod Examples
-- The first of several faults, for the layers above that look for one.
pub mod Findings
-- What only this crate's own contracts speak of.
pub mod Sizes
pub mod Pairs

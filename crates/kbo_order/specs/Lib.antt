-- The ordering of Knuth and Bendix with its ranks, in the order in which to read them.
pub mod Sums
pub mod Weights
pub mod Above
pub mod Rank
pub mod Examples
pub mod RankExamples
-- What only this crate's own contracts speak of.
pub mod Operands
pub mod Counted
pub mod Standing
pub mod NextVariable
-- That it keeps the laws.
pub mod SumLaws
pub mod Covered
pub mod Roots
pub mod OrderLaws
-- That its ranks keep theirs: finitely many ground terms are no heavier than each one, it is decided
-- which of them are below it, and each way down ends.
pub mod Decided
pub mod LightTerms
pub mod AccessibleTerms
pub mod RankLaws
pub mod KboLaws

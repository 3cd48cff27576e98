-- What is known, how it rewrites terms, and which clauses it makes needless, in the order in which
-- to read them.
pub mod Knowledge
pub mod Uses
pub mod Chains
pub mod Redundant
-- What only this crate's own contracts speak of.
pub mod Found

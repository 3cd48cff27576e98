-- The places of a clause, and what its calls ask for, in the order in which to read them.
pub mod Spots
pub mod Asked
pub mod Numbers
-- Laws of both, and what they are for small clauses.
pub mod Laws
pub mod Examples
-- What only this crate's own contracts speak of.
pub mod Codes
pub mod Counts
pub mod Listed
pub mod Walk
pub mod Demand

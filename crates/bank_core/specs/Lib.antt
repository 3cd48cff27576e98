-- What the public contracts speak of, in the order in which to read it.
pub mod Entries
pub mod Hashing
pub mod Links
-- What only this crate's own contracts speak of.
pub mod Chains

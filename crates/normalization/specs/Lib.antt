-- The definitions that a reader of normal forms has to believe, in the order in which to read them.
pub mod Uses
pub mod FirstUses
pub mod NormalForms
pub mod Normals
pub mod Laws
pub mod Examples
-- What only this crate's own contracts speak of.
pub mod Narrow
pub mod Found
pub mod Walks
pub mod Openings
pub mod Room
pub mod Firsts

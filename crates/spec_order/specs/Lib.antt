-- The order of a specification.
pub mod Orders
pub mod Ranks
pub mod Laws
pub mod Examples

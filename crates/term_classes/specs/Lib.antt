-- What the symbols of a scope are.
pub mod Scopes
-- Hashes of what classes are found by.
pub mod Sampled

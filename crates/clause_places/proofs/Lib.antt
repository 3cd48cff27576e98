-- The laws, for the crates above.
pub mod NumbersThatFit
pub mod PlacesThere
pub mod AskedVariables
pub mod ListedTerms
-- What the calls of this crate need.
mod Firsts
mod WalkedPlaces
mod LookedAt
mod PatternReferences
mod AskedAmong
mod PathCounts

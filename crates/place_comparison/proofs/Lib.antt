-- Lists that differ in one member, and the sides of clauses that differ at one place.
mod OneChanged
mod SidesRound
mod DecidedThere
-- Sizes and depths of such clauses, for the crates above too.
pub mod SizesRound
pub mod LimitsThere

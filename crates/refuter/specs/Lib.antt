-- What a search answers, how it goes from one substitution to the next, and how many values there are.
pub mod Finds
pub mod Bounded
pub mod Fewest
pub mod After
pub mod Moves
pub mod Symbols
pub mod Sizes
pub mod Blocks
pub mod Looks
pub mod Tables
pub mod Walk
pub mod Memory
pub mod Sequences
pub mod Counts
pub mod Examples

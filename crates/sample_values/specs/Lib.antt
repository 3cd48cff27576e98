-- Values at the places of a bank, and the code that gives them.
pub mod Evaluators
-- Values that have numbers.
pub mod Pools

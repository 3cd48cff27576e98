-- What code, left sides and decision trees are, and the laws.
pub mod Tests
pub mod Code
pub mod Compiled
pub mod Instructions
pub mod Matching
pub mod Homes
pub mod Matched
pub mod Branches
pub mod Blocks
pub mod RuleCodes
pub mod Programs
pub mod Lengths
pub mod Symbols
pub mod DecisionTrees
pub mod Laws
-- What only this crate's own contracts speak of.
pub mod Emitting
pub mod Growing

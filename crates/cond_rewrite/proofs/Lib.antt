-- Rows without an order, and in any block.
mod Answered
mod SameTests
mod Sizes
mod Matches
mod AppliedRows
mod FoundRules
mod GroupChildren
pub mod Blocks
mod OneRowAnswer

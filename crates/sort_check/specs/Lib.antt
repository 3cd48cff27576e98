-- The numbering of a raw specification, in the order in which to read it.
pub mod Signatures
pub mod Terms
pub mod Rules
pub mod Occurrence
pub mod Inference
pub mod Goals
pub mod Orders
-- The first fault of a raw specification, in the order in which to read it.
pub mod Entries
pub mod Words
pub mod RuleTests
pub mod Limits
pub mod Rounds
pub mod GoalTests
pub mod DeclarationTests
pub mod OrderTests
pub mod FirstFault
-- A raw specification without a fault stands for its numbering.
pub mod StandsFor
pub mod Counted
pub mod Texts
pub mod Laws
pub mod Examples
-- What only this crate's own contracts speak of.
pub mod Answers
pub mod Over
pub mod Parts
pub mod Marks

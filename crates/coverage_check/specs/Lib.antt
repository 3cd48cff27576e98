-- What is asked of rows of patterns, and what is answered of them.
pub mod Values
pub mod Rows
pub mod Admits
pub mod Opened
pub mod Named
pub mod Coverage
pub mod LeftSides
pub mod Laws
pub mod Examples
-- Groups of rules.
pub mod GroupTree
-- What only this crate's own contracts speak of.
pub mod Columns
pub mod Decisions
pub mod GuardLists

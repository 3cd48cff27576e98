pub mod Walks
pub mod GuardLists
pub mod LeftSideGroups
-- Rows and the values that they admit.
pub mod Assigned
pub mod Admitted
pub mod Joined
pub mod OpenedRows
pub mod Namings
-- Columns.
pub mod Busiest
pub mod Fronts
pub mod Symbols
pub mod Deciding
pub mod NamedValues
pub mod Matrices
mod LeftSides

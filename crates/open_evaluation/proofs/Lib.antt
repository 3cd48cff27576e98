-- Symbols, terms, rules and goals with the new numbers.
pub mod Numbers
pub mod ShiftedTerms
pub mod Extended
pub mod ShiftedRules
-- Left sides that don't overlap, and whole groups.
pub mod Back
pub mod Apart
-- Names and symbols of the new signature.
mod Inserted
mod Marked
mod Distinct
mod MarkedSigs
-- Equal applications, variables of instances, and lists of entries.
mod Arguments
pub mod Occurring
mod Entries
-- Open values under values of their variables, and walks.
pub mod OpenValues
pub mod Instancing
pub mod OpenWalks
pub mod OpenInstances
-- The same with a constant for each variable.
pub mod ClosedTerms
pub mod WithConstants
mod Parts
pub mod OutOfConstants

pub mod RuleUses
mod Naturals
mod SmallClauses
pub mod Multisets
mod TermReferences
pub mod Sides
mod InstanceSizes
pub mod Renumbering
pub mod RenumberedEquations
mod FirstOccurrences
mod Numbering
mod Taken
pub mod TidiedSorts
pub mod TidiedFails
pub mod TidiedLimits
pub mod OneRelation
-- A place is a path, and stands for one term.
pub mod OnePlace
pub mod PathsOfPlaces
pub mod EquationPlaces
pub mod HeldTerms
pub mod AmongEquations
-- A step has one answer, as each row says one thing.
pub mod OneAnswer
pub mod OneReferred
mod OneClosing
mod OneSubsuming
mod OneRewriting
mod OneSimplifying
mod OneSolving
pub mod OneCovering
mod OneGeneralizing
mod OneReplacing
pub mod OneStep
-- What the table says of small clauses.
mod SmallPlaces
mod NaturalSteps
mod InsertionSteps
mod ClosingSteps
mod SimplifyingSteps
mod SplittingSteps
mod ReplacingSteps
mod LimitSteps

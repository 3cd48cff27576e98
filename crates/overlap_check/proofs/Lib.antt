pub mod Counting
mod Instances
mod Constructors
mod SmallEntries
mod Variables
mod Unified
mod TwoRules
mod Pairs
mod OneNaming
mod OneAnswer
mod LinearSums
mod OverlappingSums

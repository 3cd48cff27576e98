-- What is so of trees, contexts and sorts alone.
pub mod GroundTerms
pub mod InContexts
pub mod SameTests
-- Values of sorted ground terms, by a measure that falls as the order does.
pub mod WholeGroups
mod RankOf
mod Measures
mod Arguments
mod Calls
pub mod HasValues
-- Lists of numbers as multisets, and weights of clauses.
pub mod Multisets
mod Counted
pub mod SideRanks
mod Lighter
mod ComparedWeights
mod TidiedWeights
-- Sorted equations and terms, and what a step makes of sorted clauses.
pub mod SortedEquations
mod Environments
mod Appended
mod SortedInstances
mod SortedContexts
mod PatternSorts
mod SameVariables
mod KeptSorts
mod MadeSorted
-- Clauses under values, and what steps keep of them.
pub mod Closers
pub mod Removing
mod Solving
mod Covering
mod Decomposing
mod Replaced
mod Untidied
-- One step of descent, by the kind of the step.
mod StepDescents
mod EqualTerms
mod ContextDescends
mod NoHigher
mod Valued
mod Referring
mod ReferringDescends
mod Exchanged
mod RuleUse
mod RuleDescends
mod CaseDescends
mod GeneralizeDescends
pub mod AllDescend
-- What children are.
pub mod SortedChildren
-- Weights of the examples.
mod SmallWeights

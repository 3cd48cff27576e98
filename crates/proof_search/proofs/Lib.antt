-- Going through lists for the first item with a result, and steps that are taken.
mod Tests
mod Walking
mod SpotsThere
mod TakenSteps
mod UnfitSpines
-- Rules by their functions, and goals that are lemmas.
mod RuleNumbers
mod LemmaGoals
-- The entries of the list.
mod OtherRules
mod UnfitRules
mod PermutedSteps
mod ListedNodes
mod LemmaClauses
mod FittingSteps
mod LeadingPlaces
mod LessSteps
mod NeverRises
mod FallingSteps
mod GrowingRuns
mod UnfitSides
mod CoverSteps
mod ListedEntries
-- Blocks that are built: their nodes, and how they go on.
mod BuiltNodes
mod Climbing
mod AddedNodes
mod Along
mod BuiltBlocks
mod Starts
-- Nodes that are taken out, and walks past those at which the routine strategy stops.
mod RemovedItems
mod PassedNodes
mod ChosenNodes
mod Walks
-- Which of them are proofs.
mod StartProofs
mod FewStarts
mod FirstProofs
mod AcceptedProofs
mod ListedGoals
-- Those whose blocks keep limits, and the nodes at which the search for one stops.
mod BoundedProofs
mod StuckNodes

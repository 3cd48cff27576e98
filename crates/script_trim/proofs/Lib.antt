-- What stays of a list, and what a step makes over it.
pub mod Staying
pub mod Follows
-- The numbers of children.
mod Children
pub mod StayingChildren
-- What a cut block makes.
pub mod CutMakes
pub mod Places
pub mod CutBlocks
-- Its links.
pub mod ReferredNodes
pub mod Prefixes
pub mod CutLinks
pub mod CutAllowed
pub mod ClosingSteps
pub mod Necessary
-- Reports with other steps.
pub mod ReplacedClaims
pub mod QuickTests
-- One trimmed report.
pub mod OneCut
pub mod FirstCuts
pub mod OtherClaims
pub mod Unclosable
-- Their texts.
mod AllItems
mod ClosingKinds
mod NodesWithin
pub mod TextBound
mod StandingSteps
pub mod StandingReports
-- Claims that are trimmed one after the other.
pub mod ClaimByClaim
pub mod TrimmedClaims
pub mod KeptClaims
pub mod FirstFits
pub mod FoundCuts
pub mod HopefulNodes
pub mod SharedKeys
pub mod KeptBlocks
pub mod NodesKept
pub mod TrimmedBlocks
-- What the definitions say of a small report.
mod Worked
mod Fixed
-- Closing steps that are tried at a node, and those that needn't be.
pub mod EquationKeys
pub mod OwnVariables
pub mod OwnTerms
pub mod Whole
pub mod Adding
pub mod Unfit
pub mod TriedSteps
pub mod Passing
pub mod ByItself
-- Which steps are closing steps.
pub mod ClosingCases
-- A block that is cut by flags.
pub mod StayingItems
pub mod StayingFlags
pub mod LinkedCuts
pub mod NodeCounts
pub mod BlockRests
pub mod FewerFits
pub mod KeptCuts
pub mod OnlyItself
pub mod StagedFits
pub mod AloneNodes
pub mod RestFacts
pub mod ClosingRanges
pub mod GivenCuts

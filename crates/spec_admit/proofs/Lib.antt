-- The laws.
mod Searches
mod NoFault
mod OneFault
mod OneLeftSide
-- What each part of the search finds.
mod Earlier
mod RepeatedNames
mod OrderedParts
mod GroupNumbers
mod WholeGroups
mod CoveredFunctions
-- Examples.
mod AdditionFaults
mod LeftSideFaults

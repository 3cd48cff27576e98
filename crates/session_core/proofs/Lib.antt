-- One state for each list of commands.
pub mod OneState
-- Each state is sound.
pub mod Sound
pub mod LastTest
-- What a session keeps.
mod StepLengths
pub mod Undoing
pub mod StandingReports
pub mod OneText
pub mod OneReading
mod ReadLines
pub mod TakingBack
mod OpenGoals
mod CarriedSteps
mod OpenBlocks
mod Neithers
mod MadeSteps
mod TestedSteps
mod CarriedGoals
mod Applied
mod WrittenCommands
mod ReportedClaims
mod ReportedStates
mod LastEntries
-- What a session writes.
mod Writing
pub mod WrittenReports
-- What sessions on naturals write.
mod Reasons
mod Worked

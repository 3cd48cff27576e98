-- What the program promises, in the order in which to read it.
pub mod Claims
pub mod Checks
pub mod Reports
pub mod SearchAlone
pub mod Evaluations
pub mod Replays
pub mod Trims
pub mod Sessions
pub mod FinishedReports
pub mod Loads
pub mod Upgrades
pub mod OneReport
pub mod Runs
pub mod RunsTwice
pub mod UpgradedRuns
pub mod Outcomes
-- What only this crate's own contracts speak of.
pub mod Within
pub mod Lemmas
pub mod Replies
pub mod Stops

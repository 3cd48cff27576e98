pub mod BegunTexts
pub mod ProvedGoals
pub mod ClaimLemmas
pub mod TrueClaims
pub mod AcceptedClaims
pub mod ReportedClaims
pub mod NextClaims
pub mod Unproved
pub mod CheckLines
pub mod Endings
pub mod EvaluationLemmas
pub mod OneText
pub mod OneEnding
pub mod OneReplay
pub mod FinishedReports
pub mod FewClaims
pub mod TrimmedReports
pub mod RightReports
mod OneSession
mod ReplayRuns
pub mod RunsTwice
mod UpgradedRuns
pub mod OneReportClaims
pub mod OneReport
pub mod Readings
pub mod LoadLengths
pub mod LoadedGoals
pub mod OneLoad
pub mod TasksWithin

-- What a page shows of terms, clauses and rules, and the words of steps and cases.
pub mod ListEvents
pub mod TermEvents
pub mod ClauseEvents
pub mod GoalEvents
pub mod RuleEvents
pub mod InstanceEvents
pub mod Lemmas
pub mod StepEvents
pub mod CaseEvents
pub mod Examples

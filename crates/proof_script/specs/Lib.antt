-- The text of a report, in the order in which to read it.
pub mod Names
pub mod Words
pub mod Steps
pub mod Claims
pub mod Standing
pub mod Reports
pub mod Texts
pub mod Faults
pub mod Laws
pub mod Examples
pub mod FaultExamples
-- What the printers ask, and how their words stand for those of a line.
pub mod Ranges
pub mod Written
-- What the readers of words find.
pub mod Delimiters
pub mod Reading
-- What the readers of lines find.
pub mod LineWords
pub mod PathText
pub mod Verbs
-- The text of an error.
pub mod ErrorText

-- The page of a report.
pub mod Lists
pub mod Values
pub mod Refutations
pub mod OpenClaims
pub mod Claims
pub mod ReportPages
-- The first place at which two values differ.
pub mod Differences
-- What they say of small values.
pub mod Examples
-- What only this crate's own contracts speak of.
pub mod Settings

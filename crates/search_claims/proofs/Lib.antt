-- Lists of claims, and values with their names.
pub mod FirstClaims
pub mod NamedValues
-- What holds of a refuted or an open claim, whoever makes it: it can be printed, its words may appear
-- in a report, its text has few bytes, and it is accepted.
pub mod InRange
pub mod Depths
pub mod ValuesStand
pub mod Bytes
pub mod OutcomesStand
pub mod Shown
-- Reports of searches.
mod SearchReports
-- what a claim says by its outcome
mod FoundOrNot

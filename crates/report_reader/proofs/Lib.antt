-- Lists and their lines.
pub mod Filled
pub mod LineTexts
-- What the first lines and the values of a report say.
pub mod TrueValue
pub mod PlainLines
pub mod NumberReads
pub mod FirstReads
pub mod BudgetReads
pub mod ValueReads
-- A text after each stage: it begins a report, and what follows in a report.
pub mod ValuesSoFar
pub mod BegunStages
pub mod Follows
pub mod Moves
pub mod Stops

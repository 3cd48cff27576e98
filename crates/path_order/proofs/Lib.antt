mod Deciding
mod Numbering
mod Patterns
-- Levels and statuses that are written out by number.
pub mod ByNumber

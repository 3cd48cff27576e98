-- What replaying a report answers.
pub mod Tells
-- What only this crate's own contracts speak of.
pub mod Finds
pub mod Kept
pub mod Taken
pub mod NamedValues

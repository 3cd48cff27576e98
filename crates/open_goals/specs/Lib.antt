-- What is shown of goals, in the order in which to read it.
pub mod Stops
pub mod Words
pub mod Sections
-- What only this crate's own contracts speak of.
pub mod Taking

-- What the program promises, in the order in which to read it.
pub mod Pages
pub mod OpenTexts
pub mod Ends
pub mod Runs
-- What only this crate's own contracts speak of.
pub mod Stops

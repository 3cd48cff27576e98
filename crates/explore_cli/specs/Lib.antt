-- What the program promises, in the order in which to read it.
pub mod Bases
pub mod Statuses
pub mod Written
pub mod Runs
pub mod Laws
-- What only this crate's own contracts speak of.
pub mod Values
pub mod Stops

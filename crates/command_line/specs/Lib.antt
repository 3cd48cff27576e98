-- What words ask for, in the order in which to read it.
pub mod Ranges
pub mod Rules
pub mod Apps
pub mod Usual
pub mod Matches
pub mod Tasks
pub mod Usage
pub mod Commands
pub mod Laws
pub mod Examples
-- What only this crate's own contracts speak of.
pub mod FlatApps
pub mod Entries
pub mod Readings
-- What only contracts of this crate and of the crates above speak of.
pub mod Helps

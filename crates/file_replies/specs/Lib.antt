-- How a call ends, what was read of a file, and what is written for a report, in the order in which to
-- read it.
pub mod Codes
pub mod Reads
pub mod Replies
pub mod Parts
-- What only contracts of this crate and of the crates above speak of.
pub mod Reported
pub mod Stops

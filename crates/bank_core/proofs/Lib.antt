-- Lists, and entries with their hashes, for the banks above.
pub mod Ends
pub mod Hashed
-- Chains of entries with one hash, and the same on links themselves.
mod Chaining
mod LinkItems
-- Spans of arguments.
mod Spans

-- What matching is, and what the references of a match are.
pub mod Matching
pub mod Bindings
pub mod Extending
pub mod Examples

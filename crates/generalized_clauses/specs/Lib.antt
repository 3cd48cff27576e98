-- What only this crate's own contracts speak of.
pub mod Sorting

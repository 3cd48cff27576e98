pub mod Instances
pub mod Entries
pub mod SortedEntries
pub mod Compositions

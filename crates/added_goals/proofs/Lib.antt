pub mod KeptGoals
pub mod Entries
pub mod SortNames
pub mod SameMeaning

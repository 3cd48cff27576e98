-- Bytes that follow a stem.
mod Marks
-- Names that are among others, and names that differ.
mod Among
mod Different
-- Lists of names for variables.
mod NameLists
mod GoalNames
-- Names that are met one after the other.
mod Meeting
-- Lists that get one more item.
mod SortStems
-- Names of one node after the other.
mod Walked

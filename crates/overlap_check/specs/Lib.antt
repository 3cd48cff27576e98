-- The definitions that a reader of an answer has to believe, in the order in which to read them.
-- the first rule with a variable that occurs twice on its left side
pub mod Repetition
-- left sides that some values match both, and the first pair of them
pub mod Overlaps
-- the values that are named for such a pair
pub mod NamedValues
-- what an answer about overlaps says of a specification
pub mod Answers
-- laws of these definitions, and what they say of rules for addition
pub mod Laws
pub mod Examples
-- What only this crate's own contracts speak of.
pub mod Occurrences
pub mod Clashes
pub mod Searches

-- What may be written for a specification, in the order in which to read it.
pub mod Proved
pub mod Explorations
pub mod Laws
pub mod Examples
-- What only contracts of functions speak of.
pub mod Answers

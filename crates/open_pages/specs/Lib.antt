-- The text on open goals, in the order in which to read it.
pub mod Deeper
pub mod Freer
pub mod Sections
pub mod OpenPages

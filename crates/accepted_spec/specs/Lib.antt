-- What bytes stand for and which lines refuse them, in the order in which to read it.
pub mod Meanings
pub mod AdmitLines
pub mod Refusals
-- What only contracts of functions speak of.
pub mod Tellings
pub mod Ranges

-- The printed form of a raw specification, in the order in which to read it.
pub mod Printed
pub mod SamePlaces
pub mod ReadsBack
pub mod Upgraded
pub mod Examples

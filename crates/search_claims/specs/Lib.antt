-- Claims of searches, in the order in which to read them.
pub mod Claims
pub mod Deepening
pub mod Names
pub mod Laws

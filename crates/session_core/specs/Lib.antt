-- Sessions, in the order in which to read them.
pub mod States
pub mod Lengths
pub mod Accepting
pub mod Refusals
pub mod Sound
pub mod Sessions
pub mod Kept
pub mod Taking
pub mod Written
pub mod Value
pub mod CommandText
pub mod SessionText
pub mod Writing
pub mod Laws
pub mod Examples

-- What the laws speak of.
pub mod Calls
pub mod KeptCalls
pub mod Owed
pub mod Turns
pub mod Fuel
pub mod Runs
pub mod States
pub mod Ranged
pub mod Laws
pub mod Sound
pub mod SoundLaws
pub mod Stacks

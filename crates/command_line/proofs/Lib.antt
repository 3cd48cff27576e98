mod Defaults
pub mod OwnNames
pub mod FlatApps
mod ReadLemmas
mod Refusals
pub mod Entries
mod Askings
pub mod OneRequest
mod Examples

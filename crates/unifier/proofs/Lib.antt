pub mod Shifts
pub mod Apart
mod Closing
mod Filling
mod Graphs
mod Growing
mod Joining
mod Lists
mod Markings
mod Pairs
mod Readiness
mod Relabelling
mod Resolutions
mod SampleUnifiers
mod Solving

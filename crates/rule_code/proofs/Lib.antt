-- Values, slots and the code of terms; left sides, rules and decision trees.
mod Values
pub mod Slots
pub mod Compiling
pub mod Bodies
pub mod Matches
mod Kept
mod Emitted
mod Opened
pub mod Homes
pub mod Placed
pub mod Ranges
pub mod Joined
pub mod ListItems
mod Looking
pub mod Descending
mod Parts
pub mod Grown
pub mod Lengths
pub mod Testing
pub mod Branching

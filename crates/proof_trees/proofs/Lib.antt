-- What is left to draw of a tree.
pub mod Drawing
mod Answered
pub mod Stack
pub mod WholeBlocks
pub mod ShownProofs

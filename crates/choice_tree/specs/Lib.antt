-- The nodes of a tree.
pub mod Trees

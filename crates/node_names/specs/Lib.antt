-- Names of the variables of a block's nodes.
pub mod Names
pub mod Nodes
-- What only this crate's own contracts speak of.
pub mod Settings

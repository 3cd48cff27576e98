-- The nodes of a tree stay nodes of a block.
mod KeptNodes

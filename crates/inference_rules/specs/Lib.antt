-- What a step answers, over the nodes so far.
pub mod Answers
pub mod Counting
pub mod Conditions
pub mod Nodes
pub mod Reasons
pub mod Parts

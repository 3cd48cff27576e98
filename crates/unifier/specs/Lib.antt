-- What renaming apart and unification are.
pub mod Shifting
pub mod Unification
pub mod Laws
pub mod Examples
-- What only this crate's own contracts speak of: how errors are reported,
pub mod ErrorText
-- the graph of two terms,
pub mod Graph
pub mod Parts
pub mod Adding
-- the classes of its nodes,
pub mod Roots
pub mod Markings
pub mod Classes
pub mod Work
pub mod Closure
-- the occurs test,
pub mod Cycles
pub mod Readiness
-- and the unifier of an acyclic graph.
pub mod Answer

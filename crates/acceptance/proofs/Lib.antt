-- One block, and one verdict.
pub mod OneBlock
pub mod Reasons
pub mod NoRefusal
pub mod FirstRefusal
pub mod Longer
-- Which nodes are strict, and what is allowed.
pub mod Links
pub mod WholeBlocks
mod Flags
mod StrictFlags
-- What the definitions say of small reports.
pub mod UnitProof
mod RefusedReports

-- Steps that are taken, and taken back.
pub mod Taking
mod TakenBack
-- The steps of a whole block.
pub mod BlocksTaken
pub mod GoalNodes
-- The lines of steps, claims and accepted reports may be printed.
pub mod StepsInRange
pub mod AcceptedInRange
-- The numbers of children.
pub mod ChildNumbers
pub mod FirstChildren

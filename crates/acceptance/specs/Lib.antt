-- Blocks of steps: which nodes are strict, what is allowed, and what is proved.
pub mod Strict
pub mod Blocks
pub mod AllowedAnswers
-- Claims and reports that are accepted.
pub mod Claims
pub mod Accepting
-- Where a report is first refused.
pub mod StepRefusals
pub mod Refusals
pub mod Laws
pub mod Examples

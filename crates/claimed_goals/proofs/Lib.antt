-- The goals that claims are on.
pub mod Tracking
-- Goals that may be used.
pub mod UsableGoals

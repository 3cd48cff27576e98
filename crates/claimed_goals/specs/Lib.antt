-- The goals that claims are on.
pub mod Tracking

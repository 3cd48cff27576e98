-- Goals that are added and taken off keep a specification well sorted and admitted.
pub mod Kept
-- Equations whose sides have one sort.
mod Equations

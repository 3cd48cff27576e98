-- Specifications with other goals.
pub mod Growing

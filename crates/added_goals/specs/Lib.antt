-- Specifications with further goals.
pub mod Additions
pub mod Laws
pub mod Examples

pub mod Substitution
pub mod Updates
pub mod Fitting
pub mod Laws
pub mod Examples

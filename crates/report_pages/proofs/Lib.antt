-- What the proofs of this crate share.
mod AcceptedClaims
mod Differences
pub mod Lists

-- What the proofs of this crate share.
pub mod Joined
mod Arguments
pub mod Items

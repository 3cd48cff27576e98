-- What the proofs of this crate share.
mod Taken
mod Enclosed
mod Listed

-- What the proofs of this crate share, and what the layers above need of pages.
mod FirstSpecial
mod Markups
mod MarkupPages
mod PlainTexts
pub mod Pages

-- The grammar of specifications, in the order in which to read it.
pub mod RawTree
pub mod FormatOne
pub mod Items
pub mod Limits
pub mod Grammar
pub mod Derives
pub mod Sizes
pub mod KeepsLimits
pub mod Laws
pub mod Examples
-- A stack of symbols for readers: no text is described by it.
pub mod Symbols
-- How the logic stores and measures a raw term.
pub mod RawCodes
pub mod RawMeasure

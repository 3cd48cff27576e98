-- The names and the tokens of a text, in the order in which to read them.
pub mod Names
pub mod Gaps
pub mod Lexemes
pub mod Tokens
pub mod Spans
pub mod Written
pub mod Laws
pub mod Examples
-- What only this crate's own contracts speak of.
pub mod Scanner

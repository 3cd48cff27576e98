-- What the provers answer.
pub mod Reportable

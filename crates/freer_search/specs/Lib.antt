-- What the search answers.
pub mod Found

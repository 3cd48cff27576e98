-- What a reader of an answer has to believe: what a row of the table answers by itself.
pub mod RowAnswers
-- That a row answers so in any block and by any order, and has one answer.
pub mod Laws
-- What only this crate's own contracts speak of: instances by a substitution.
pub mod Applied

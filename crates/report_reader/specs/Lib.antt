-- What the reader of reports answers.
pub mod Answers
pub mod ErrorText
-- What its own functions ask and find: lines, the words of first lines, and values.
pub mod Lines
pub mod Numbers
pub mod FirstLines
pub mod ValueLines
-- How far a text was read.
pub mod Stages
pub mod Behind

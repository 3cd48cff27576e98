-- Lists of terms for the variables of a clause that is referred to, in the order in which to read
-- them.
pub mod Questions
pub mod Fitting
pub mod Spines
pub mod Along
pub mod Leading
pub mod Answering
pub mod Examples
pub mod Marks
pub mod Found

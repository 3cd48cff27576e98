-- Sample orders of specifications, which worked examples of the crates above take.
pub mod SumOrder
pub mod Examples

pub mod ClauseSteps
pub mod Few
pub mod Grow
pub mod OneFault
pub mod OrderSteps
pub mod Settled
pub mod SortSteps
pub mod Steps

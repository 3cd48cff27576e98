pub mod ReportTruth
pub mod AcceptedAreTrue
pub mod Examples

-- The lines that are written of a report.
pub mod Lines

pub mod Pieces
pub mod Endings
pub mod Readings
pub mod NamesOfTexts
pub mod StandingNames
pub mod Reported

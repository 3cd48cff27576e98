-- Steps of a block that are taken one after the other, and taken back.
pub mod Taken

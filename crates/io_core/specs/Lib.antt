-- What the traits speak of: Count, Piece, Asked. What stores and sinks in memory are: Held, CallPlan.
pub mod Asked
pub mod CallPlan
pub mod Count
pub mod Held
pub mod Piece
pub mod Words

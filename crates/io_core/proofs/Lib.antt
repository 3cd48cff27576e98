-- Laws for callers that read or write more than once.
pub mod Counts
pub mod Pieces

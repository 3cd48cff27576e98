-- What `load` generates and what is promised of it, in the order in which to read it.
pub mod LoadRaw
pub mod LoadSpec
pub mod Accepted
pub mod Bytes
pub mod Examples

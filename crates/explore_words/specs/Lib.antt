-- What words ask for, in the order in which to read it.
pub mod Words
pub mod Usage
pub mod Requests
pub mod Laws

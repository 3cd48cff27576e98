-- What the reader answers.
pub mod Faults
pub mod Laws
-- What only this crate's own contracts speak of.
pub mod Scanned
pub mod Reading
pub mod ReadingSorts
pub mod ReadingOrders
pub mod Wholes

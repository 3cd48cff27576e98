-- Trimmed reports, in the order in which to read them.
pub mod Closing
pub mod Cut
pub mod Made
pub mod Trimmed
pub mod Quick
pub mod Laws
pub mod Standing
pub mod Examples
-- What only this crate's own contracts speak of.
pub mod Keys
pub mod Sharing
pub mod Fitting
pub mod Trying
pub mod Kept
pub mod OneClaim
pub mod Placing
pub mod Finding
pub mod Flags
pub mod Cutting

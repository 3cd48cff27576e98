-- Terms at places that are looked at.
mod Placing
-- Applications, and the code of calls.
mod Applying
mod Calling
-- Values that stay.
mod Keeping
mod Booleans
-- The symbols of values.
pub mod Symbols

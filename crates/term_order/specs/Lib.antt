-- What an order on terms is, and what its tests compare.
pub mod Laws
pub mod Operands

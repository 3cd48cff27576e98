-- What changes nothing of what a raw specification stands for.
pub mod Laws

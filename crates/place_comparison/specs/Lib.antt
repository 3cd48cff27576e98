-- How terms compare, and that a place decides how clauses do.
pub mod AtPlaces

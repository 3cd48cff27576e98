-- What a step makes without the clauses of children, and that it decides what is allowed.
pub mod Links
pub mod Laws

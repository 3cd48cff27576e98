-- Chains of uses in lists of terms, and the clauses of a store.
pub mod ChainLists
pub mod KnownClauses

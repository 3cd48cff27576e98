-- What numbering by first occurrence says of the numbers.
use Rattle.std.proofs.Common.{ℕ, ◌<◌, ◌≤◌, inl, inr, arith}
use Rattle.term_core.specs.Tree.{Tree, Trees, var, app, none, some}
use Rattle.term_core.specs.Variables.{Numbered, NumberedAll, Occurs, OccursAny}

mutual
  pub numbered_more : (k m : ℕ) (t : Tree) → Numbered k t m → k ≤ m
  numbered_more k m (var n) (inl h) = omega arith
  numbered_more k m (var n) (inr h) = omega arith
  numbered_more k m (app f ts) h = numbered_all_more k m ts h

  pub numbered_all_more : (k m : ℕ) (ts : Trees) → NumberedAll k ts m → k ≤ m
  numbered_all_more k m none h = omega arith
  numbered_all_more k m (some t ts) h = omega (arith, numbered_more k h.0 t h.1, numbered_all_more h.0 m ts h.2)

mutual
  pub numbered_below : (k m : ℕ) (t : Tree) → Numbered k t m → (n : ℕ) → Occurs n t → n < m
  numbered_below k m (var j) (inl h) n o = omega (arith, o)
  numbered_below k m (var j) (inr h) n o = omega (arith, o)
  numbered_below k m (app f ts) h n o = numbered_all_below k m ts h n o

  pub numbered_all_below : (k m : ℕ) (ts : Trees) → NumberedAll k ts m → (n : ℕ) → OccursAny n ts → n < m
  numbered_all_below k m none h n o = absurd o
  numbered_all_below k m (some t ts) h n (inl o) = omega (
    arith,
    numbered_below k h.0 t h.1 n o,
    numbered_all_more h.0 m ts h.2,
  )
  numbered_all_below k m (some t ts) h n (inr o) = numbered_all_below h.0 m ts h.2 n o

-- The bound of a term's variables: each is below it.
use Rattle.std.proofs.Common.{◌≡◌, ℕ, ◌<◌, [], ◌++◌, inl, inr, refl, ap, ◌∙◌, arith}
use Rattle.term_core.specs.Tree.{Tree, Trees, var, app, none, some}
use Rattle.term_core.specs.Variables.{Occurs, OccursAny, occurrences, occurrences_all}
use Rattle.term_core.specs.Measures.{tree_bound, bounds}

mutual
  pub occurs_below : (n : ℕ) (t : Tree) → Occurs n t → n < tree_bound t
  occurs_below n (var m) h = omega (arith, h)
  occurs_below n (app f ts) h = any_below n ts h

  pub any_below : (n : ℕ) (ts : Trees) → OccursAny n ts → n < bounds ts
  any_below n none h = absurd h
  any_below n (some t ts) (inl h) = omega (arith, occurs_below n t h)
  any_below n (some t ts) (inr h) = omega (arith, any_below n ts h)

mutual
  -- a term whose bound is 0 has no variable
  pub no_occurrence : (t : Tree) → tree_bound t ≡ 0 → occurrences t ≡ []
  no_occurrence (var n) e = absurd (omega (arith, e))
  no_occurrence (app f ts) e = no_occurrences ts e

  pub no_occurrences : (ts : Trees) → bounds ts ≡ 0 → occurrences_all ts ≡ []
  no_occurrences none e = refl
  no_occurrences (some t ts) e =
      ap (λ ns. ns ++ occurrences_all ts) (no_occurrence t (omega (arith, e)))
      ∙ no_occurrences ts (omega (arith, e))

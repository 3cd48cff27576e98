-- Finitely many ground terms in n weigh less than a number, since each symbol weighs something.
use Rattle.std.proofs.Common.{ℕ, zero, suc, ◌<◌, ◌≤◌, inl, inr, arith}
use Rattle.term_core.specs.Tree.{Tree, Trees, var, app, none, some}
use Rattle.term_core.specs.Ground.{IsGroundIn, AreGroundIn}
use Rattle.longest_chains.proofs.Enumerated.{Enumerated, same-items, no-items, numbers-below, kept-items, chosen-items}
use Rattle.longest_chains.proofs.Each.{Each}
use Rattle.longest_chains.proofs.EnumeratedTerms.{HeadAndArguments, head-and-arguments, count, short-lists}
use Rattle.kbo_order.specs.Weights.{weight_of, weight_of_all}
use Rattle.kbo_order.specs.Above.{AboveByWeight}
use Rattle.kbo_order.specs.Roots.{cases-of}
use Rattle.kbo_order.specs.Rank.{GroundAbove}
use Rattle.kbo_order.specs.Decided.{less-or-not, decided-above}

-- a ground term in n that weighs less than m
abbrev pub IsLight : (ℕ → ℕ) → ℕ → ℕ → Tree → Type 0
IsLight w n m t = IsGroundIn n t × (weight_of w t < m)

module _ (w : ℕ → ℕ) (positive : (f : ℕ) → 1 ≤ w f) (n : ℕ) where
  each-light :
      (m : ℕ) (ts : Trees) → AreGroundIn n ts → weight_of_all w ts < m → Each (IsLight w n m) ts
  each-light m none g l = tt
  each-light m (some t ts) g l =
      ((g.0, omega (arith, l)), each-light m ts g.1 (omega (arith, l)))

  each-ground : (m : ℕ) (ts : Trees) → Each (IsLight w n m) ts → AreGroundIn n ts
  each-ground m none e = tt
  each-ground m (some t ts) e = (e.0.0, each-ground m ts e.1)

  abbrev Built : ℕ → Tree → Type 0
  Built m t =
      HeadAndArguments (λ f. f < n) (λ f ts. (count ts < 9) × Each (IsLight w n m) ts) t
      × (weight_of w t < suc m)

  to-light : (m : ℕ) (t : Tree) → Built m t → IsLight w n (suc m) t
  to-light m (var x) h = absurd h.0
  to-light m (app f ts) h = ((h.0.0, omega (arith, h.0.1.0), each-ground m ts h.0.1.1), h.1)

  from-light : (m : ℕ) (t : Tree) → IsLight w n (suc m) t → Built m t
  from-light m (var x) h = absurd h.0
  from-light m (app f ts) h =
      ((h.0.0, (omega (arith, h.0.1), each-light m ts h.0.2 (omega (arith, h.1, positive f)))), h.1)

  pub light-terms : (m : ℕ) → Enumerated (IsLight w n m)
  light-terms zero = no-items (λ t h. omega (arith, h.1))
  light-terms (suc m) =
      same-items (to-light m) (from-light m)
      (chosen-items (head-and-arguments (numbers-below n) (λ f. short-lists (light-terms m) 9))
      (λ t. less-or-not (weight_of w t) (suc m)))

  pub smaller-terms : (t : Tree) → IsGroundIn n t → Enumerated (GroundAbove w n t)
  smaller-terms t g =
      same-items to from
      (kept-items (light-terms (suc (weight_of w t))) (λ s h. decided-above w n t s g h.0))
    where
      to : (s : Tree) → IsLight w n (suc (weight_of w t)) s × AboveByWeight w t s → GroundAbove w n t s
      to s h = (g, h.0.0, h.1)

      from : (s : Tree) → GroundAbove w n t s → IsLight w n (suc (weight_of w t)) s × AboveByWeight w t s
      from s h =
          let no_more : weight_of w s < suc (weight_of w t) =
          elim (cases-of h.2) [ inl l ↦ omega (arith, l) | inr r ↦ omega (arith, r.0) ] in
          ((h.1, no_more), h.2)

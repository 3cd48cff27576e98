-- Chains of uses: one after the other, below a symbol, and at the root.
use Rattle.std.proofs.Common.{◌≡◌, ℕ, ◌+◌, zero, suc, ◌<◌, inl, inr, length, List, [], ◌∷◌, ◌++◌, map, Some, refl, ap}
use Rattle.std.proofs.Common.{sym, ◌∙◌, subst, arith}
use Rattle.std.specs.Prelude.{slice_get, slice_set}
use Rattle.std.specs.List.{AllByRecursion}
use Rattle.term_core.specs.Tree.{Tree, app, trees_of, list_of}
use Rattle.term_core.specs.Places.{IsArgument, IsAt, IsReplaced}
use Rattle.term_core.proofs.Items.{all_at}
use Rattle.term_core.proofs.Trees.{list_of-trees_of}
use Rattle.spec_core.specs.declared.records.Spec.{Spec}
use Rattle.normalization.specs.Uses.{IsStuck}
use Rattle.normalization.specs.FirstUses.{Before, IsFirstUse}
use Rattle.normalization.specs.NormalForms.{IsNormal, Runs}
use Rattle.normalization.specs.Walks.{below}

pub runs_append : (spec : Spec) (t u v : Tree) (ws xs : List (List ℕ × ℕ)) → Runs spec t ws u →
    Runs spec u xs v → Runs spec t (ws ++ xs) v
runs_append spec t u v [] xs a b = subst (λ x. Runs spec x xs v) a b
runs_append spec t u v (w ∷ ws) xs a b = (a.0, a.1, tt, runs_append spec a.0 u v ws xs a.3 b)

-- items of a list that has one item between two parts
middle_get : {X : Type 0} (xs ys : List X) (x : X) → slice_get (xs ++ x ∷ ys) (length xs) ≡ Some x
middle_get [] ys x = refl
middle_get (y ∷ xs) ys x = middle_get xs ys x

middle_set : {X : Type 0} (xs ys : List X) (x y : X) → slice_set (xs ++ x ∷ ys) (length xs) y ≡ xs ++ y ∷ ys
middle_set [] ys x y = refl
middle_set (z ∷ xs) ys x y = ap (λ zs. z ∷ zs) (middle_set xs ys x y)

before_get : {X : Type 0} (xs ys : List X) (x y : X) (k : ℕ) → k < length xs →
    slice_get (xs ++ x ∷ ys) k ≡ Some y → slice_get xs k ≡ Some y
before_get [] ys x y k lt at = absurd (omega arith)
before_get (z ∷ xs) ys x y zero lt at = at
before_get (z ∷ xs) ys x y (suc k) lt at = before_get xs ys x y k (omega arith) at

module _ (spec : Spec) (f : ℕ) (done rest : List Tree) (normal : AllByRecursion (IsNormal spec) done) where
  abbrev around : Tree → Tree
  around t = app f (trees_of (done ++ t ∷ rest))

  abbrev number : ℕ
  number = length done + 1

  middle_argument : (t : Tree) → IsArgument number (trees_of (done ++ t ∷ rest)) t
  middle_argument t = (
    length done,
    refl,
    ap (λ us. slice_get us (length done)) (list_of-trees_of (done ++ t ∷ rest)) ∙ middle_get done rest t,
  )

  -- the middle argument is the only one of its number
  only_argument : (t s : Tree) → IsArgument number (trees_of (done ++ t ∷ rest)) s → s ≡ t
  only_argument t s a =
      let k : a.0 ≡ length done = omega (arith, a.1) in
      let at : slice_get (done ++ t ∷ rest) (length done) ≡ Some s = ap (λ us. slice_get us (length done))
      (sym (list_of-trees_of (done ++ t ∷ rest)))
      ∙ subst (λ j. slice_get (list_of (trees_of (done ++ t ∷ rest))) j ≡ Some s) k a.2 in
      let here = middle_get done rest t in
      cc

  pub middle_replaced : (t u new : Tree) (p : List ℕ) → IsReplaced p t new u →
      IsReplaced (number ∷ p) (around t) new (around u)
  middle_replaced t u new p r = (
    t,
    u,
    trees_of (done ++ u ∷ rest),
    middle_argument t,
    r,
    (
      length done,
      refl,
      ap (λ us. trees_of us)
          (sym (ap (λ us. slice_set us (length done) u) (list_of-trees_of (done ++ t ∷ rest))
          ∙ middle_set done rest t u)),
    ),
    refl,
  )

  -- what comes before a place in the middle argument is stuck
  pub first_below : (t : Tree) (place : List ℕ) → ((p : List ℕ) (s : Tree) → Before p place → IsAt p t s →
      IsStuck spec s) → (p : List ℕ) (s : Tree) → Before p (number ∷ place) → IsAt p (around t) s → IsStuck spec s
  first_below t place h [] s b at = absurd b
  first_below t place h (i ∷ p) s (inl less) at =
      let lt : at.1.0 < length done = omega (arith, less, at.1.1) in
      let here : slice_get (done ++ t ∷ rest) at.1.0 ≡ Some at.0 = ap (λ us. slice_get us at.1.0)
      (sym (list_of-trees_of (done ++ t ∷ rest))) ∙ at.1.2 in
      all_at (IsNormal spec) done normal at.1.0 at.0 (before_get done rest t at.0 at.1.0 lt here) p s at.2
  first_below t place h (i ∷ p) s (inr same) at =
      let a : IsArgument number (trees_of (done ++ t ∷ rest)) at.0 = subst
      (λ j. IsArgument j (trees_of (done ++ t ∷ rest)) at.0) same.0 at.1 in
      h p s same.1 (subst (λ x. IsAt p x s) (only_argument t at.0 a) at.2)

  pub use_below : (t u : Tree) (place : List ℕ) (k : ℕ) → IsFirstUse spec t place k u →
      IsFirstUse spec (around t) (number ∷ place) k (around u)
  use_below t u place k w = record {
    old = w.old;
    new = w.new;
    at = (t, middle_argument t, w.at);
    rule = w.rule;
    made = middle_replaced t u w.new place w.made;
    first = first_below t place w.first;
    least = w.least;
  }

  pub runs_below : (t u : Tree) (ws : List (List ℕ × ℕ)) → Runs spec t ws u →
      Runs spec (around t) (map (below (number ∷ [])) ws) (around u)
  runs_below t u [] r = ap (λ x. around x) r
  runs_below t u (w ∷ ws) r = (around r.0, use_below t r.0 w.0 w.1 r.1, tt, runs_below r.0 u ws r.3)

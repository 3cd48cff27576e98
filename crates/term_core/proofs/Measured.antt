-- What is kept of terms, one term more at a time, and what it says of their numbering.
use Rattle.std.proofs.Common.{◌≡◌, ◌⊎◌, ℕ, suc, ◌+◌, ◌<◌, ◌≤◌, max, List, [], ◌∷◌, ◌++◌, inl, inr, refl, ap, sym, ◌∙◌}
use Rattle.std.proofs.Common.{arith, length, get_or, take}
use Rattle.std.proofs.lemmas.Bool.Decides.{nat_tests}
use Rattle.std.proofs.lemmas.List.{take_more}
use Rattle.term_core.specs.Tree.{Tree, Trees, var, app, none, some, trees_of, tree_size, sizes, tree_depth, depths}
use Rattle.term_core.specs.Measures.{tree_bound, bounds, tree_need, needs, joint_need, narrow, measure_of, measures_of}
use Rattle.term_core.specs.Measures.{followed}
use Rattle.term_core.specs.Variables.{Numbered, NumberedAll}
use Rattle.term_core.proofs.Trees.{sizes-append, depths-append}

bounds-append : (xs : List Tree) (y : Tree) →
    bounds (trees_of (xs ++ y ∷ [])) ≡ max (bounds (trees_of xs)) (tree_bound y)
bounds-append [] y = omega arith
bounds-append (x ∷ xs) y = omega (arith, bounds-append xs y)

joint_again :
    (a b c d e : ℕ) → joint_need a b (joint_need c d e) ≡ joint_need (joint_need a b c) (max b d) e
joint_again a b c d e = grind (arith, nat_tests)

joint_first : (a b : ℕ) → joint_need a b 0 ≡ joint_need 0 0 a
joint_first a b = grind (arith, nat_tests)

needs-append :
    (xs : List Tree) (y : Tree) → needs (trees_of (xs ++ y ∷ []))
    ≡ joint_need (needs (trees_of xs)) (bounds (trees_of xs)) (tree_need y)
needs-append [] y = joint_first (tree_need y) (tree_bound y)
needs-append (x ∷ xs) y =
    ap (λ n. joint_need (tree_need x) (tree_bound x) n) (needs-append xs y)
    ∙ joint_again (tree_need x) (tree_bound x) (needs (trees_of xs)) (bounds (trees_of xs)) (tree_need y)

narrow_sum : (a b c : ℕ) → c ≡ a + b → narrow c ≡ narrow (narrow a + narrow b)
narrow_sum a b c e = omega (arith, e)

narrow_max : (a b c : ℕ) → c ≡ max a b → narrow c ≡ max (narrow a) (narrow b)
narrow_max a b c e = omega (arith, e)

pub measures-append :
    (xs : List Tree) (y : Tree) → measures_of (trees_of (xs ++ y ∷ []))
    ≡ followed (measures_of (trees_of xs)) (measure_of y)
measures-append xs y =
    let s = narrow_sum (sizes (trees_of xs)) (tree_size y) _ (sizes-append xs y) in
    let d = narrow_max (depths (trees_of xs)) (tree_depth y) _ (depths-append xs y) in
    let b = bounds-append xs y in
    let n = needs-append xs y in
    λ i. record { size = s i; depth = d i; bound = b i; need = n i }

-- one more term of a list
pub measures-take_more :
    (xs : List Tree) (i : ℕ) (x : Tree) → i < length xs → x ≡ get_or xs i x →
    measures_of (trees_of (take (i + 1) xs))
    ≡ followed (measures_of (trees_of (take i xs))) (measure_of x)
measures-take_more xs i x h e =
    ap (λ us. measures_of (trees_of us))
    (take_more xs i x h ∙ ap (λ u. take i xs ++ u ∷ []) (sym e))
    ∙ measures-append (take i xs) x

joint_within : (a b c k : ℕ) → a ≤ k → c ≤ max b k → joint_need a b c ≤ k
joint_within a b c k h g = grind (arith, nat_tests)

joint_parts : (a b c k : ℕ) → joint_need a b c ≤ k → (a ≤ k) × (c ≤ max b k)
joint_parts a b c k h = (grind (arith, nat_tests), grind (arith, nat_tests))

mutual
  -- if a term's variables are numbered, as many are before it as it needs
  pub numbered_needs :
      (k m : ℕ) (t : Tree) → Numbered k t m → (tree_need t ≤ k) × (m ≡ max (tree_bound t) k)
  numbered_needs k m (var n) (inl h) = (omega (arith, h.0), omega (arith, h.0, h.1))
  numbered_needs k m (var n) (inr h) = (omega (arith, h.0), omega (arith, h.0, h.1))
  numbered_needs k m (app f ts) h = numbered_need k m ts h

  numbered_need :
      (k m : ℕ) (ts : Trees) → NumberedAll k ts m → (needs ts ≤ k) × (m ≡ max (bounds ts) k)
  numbered_need k m none h = (omega arith, omega (arith, h))
  numbered_need k m (some t ts) h =
      let first = numbered_needs k h.0 t h.1 in
      let rest = numbered_need h.0 m ts h.2 in (
        joint_within (tree_need t) (tree_bound t) (needs ts) k first.0
            (omega (arith, rest.0, first.1)),
        omega (arith, first.1, rest.1),
      )

variable_numbered :
    (k m n : ℕ) → n ≤ k → m ≡ max (suc n) k → ((n < k) × (m ≡ k)) ⊎ ((n ≡ k) × (m ≡ k + 1))
variable_numbered k m n h e = grind (arith, nat_tests)

mutual
  -- and if this many are, they are numbered
  pub numbered_from :
      (k m : ℕ) (t : Tree) → tree_need t ≤ k → m ≡ max (tree_bound t) k → Numbered k t m
  numbered_from k m (var n) h e = variable_numbered k m n h e
  numbered_from k m (app f ts) h e = all_numbered_from k m ts h e

  all_numbered_from :
      (k m : ℕ) (ts : Trees) → needs ts ≤ k → m ≡ max (bounds ts) k → NumberedAll k ts m
  all_numbered_from k m none h e = omega (arith, e)
  all_numbered_from k m (some t ts) h e =
      let parts = joint_parts (tree_need t) (tree_bound t) (needs ts) k h in
      let j = max (tree_bound t) k in (
        j,
        numbered_from k j t parts.0 refl,
        all_numbered_from j m ts parts.1 (omega (arith, e)),
      )

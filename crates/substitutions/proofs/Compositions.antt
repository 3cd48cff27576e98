-- The entries of a composition.
use Rattle.std.proofs.Common.{◌≡◌, ℕ, ◌<◌, ◌+◌, max, inl, inr, List, [], ◌∷◌, ◌++◌, Option, Some, None, refl, ap, ◌∙◌}
use Rattle.std.proofs.Common.{length, unwrap_or, option_map, arith}
use Rattle.std.specs.Option.{option_or}
use Rattle.std.proofs.lemmas.List.{get_or_past, get_or_push, get_or_append_left}
use Rattle.term_core.specs.Tree.{Tree, var}
use Rattle.substitutions.specs.Substitution.{entry, apply, IsComposed}
use Rattle.substitutions.proofs.Instances.{composed_from_images}
use Rattle.term_core.proofs.Numbers.{below_or_not}

-- the instance of the entry of the first, or the entry of the second if the first has none
abbrev pub composed_entry : List (Option Tree) → List (Option Tree) → ℕ → Option Tree
composed_entry first second n = option_or (option_map (apply second) (entry first n)) (entry second n)

image_of : (second : List (Option Tree)) (n : ℕ) (o : Option Tree) →
    unwrap_or (option_or (option_map (apply second) o) (entry second n)) (var n) ≡ apply second (unwrap_or o (var n))
image_of second n None = refl
image_of second n (Some t) = refl

-- a list that has these entries up to the length of both composes them
pub composes : (first second both : List (Option Tree)) → length both ≡ max (length first) (length second) →
    ((n : ℕ) → n < length both → entry both n ≡ composed_entry first second n) → IsComposed first second both
composes first second both e h = composed_from_images first second both
    (λ n. ap (λ o. unwrap_or o (var n)) (each n) ∙ image_of second n (entry first n))
  where
    each : (n : ℕ) → entry both n ≡ composed_entry first second n
    each n = elim (below_or_not n (length both)) [
      | inl below ↦ h n below
      | inr past ↦
          let a : entry both n ≡ None = get_or_past both n None past in
          let b : entry first n ≡ None = get_or_past first n None (omega arith) in
          let c : entry second n ≡ None = get_or_past second n None (omega arith) in
          rw (a, b, c) refl
    ]

-- one more entry
pub composes_more : (first second made : List (Option Tree)) (o : Option Tree) (k : ℕ) → length made ≡ k →
    ((n : ℕ) → n < k → entry made n ≡ composed_entry first second n) → o ≡ composed_entry first second k →
    (n : ℕ) → n < k + 1 → entry (made ++ o ∷ []) n ≡ composed_entry first second n
composes_more first second made o k e h is n below = elim (below_or_not n k) [
  | inl l ↦ get_or_append_left made (o ∷ []) None n (omega arith) ∙ h n l
  | inr l ↦
      let same : n ≡ k = omega arith in
      rw same (get_or_push made o None k e ∙ is)
]

-- Variables in a row: what lists give for them, and their occurrences.
use Rattle.std.proofs.Common.{◌≡◌, ℕ, zero, suc, ◌+◌, ◌-◌, List, [], ◌∷◌, ◌++◌, Option, Some, map, length, get_or}
use Rattle.std.proofs.Common.{refl, ap, sym, ◌∙◌, arith}
use Rattle.std.specs.Prelude.{slice_get}
use Rattle.std.specs.List.{range_with_len}
use Rattle.std.proofs.lemmas.List.{map-append}
use Rattle.std.proofs.lemmas.List.FromFn.{map-range_with_len_more}
use Rattle.term_core.specs.Tree.{Tree, var, some, instance, instances, trees_of}
use Rattle.term_core.specs.Variables.{occurrences_all}
use Rattle.term_core.specs.declared.ids.SortId.{SortId}
use Rattle.spec_core.specs.Sig.{Sig}
use Rattle.spec_core.specs.Sorts.{SortedAll}
use Rattle.spec_core.specs.WellSorted.{ArePatterns}
use Rattle.clause_core.specs.Instances.{variables}

map_shifted : {X : Type 0} (f : ℕ → X) (from count : ℕ) →
    map f (range_with_len (from + 1) count) ≡ map (λ n. f (suc n)) (range_with_len from count)
map_shifted f from zero = refl
map_shifted f from (suc count) =
    let e : from + 1 ≡ suc from = omega arith in
    let first = ap f e in
    let rest = map_shifted f (from + 1) count in
    λ i. first i ∷ rest i

-- the items of a list by their places, whatever stands for those past the end
pub all_items : {X : Type 0} (d : ℕ → X) (xs : List X) →
    map (λ n. get_or xs n (d n)) (range_with_len 0 (length xs)) ≡ xs
all_items d [] = refl
all_items d (x ∷ xs) = ap (λ ys. x ∷ ys) (map_shifted (λ n. get_or (x ∷ xs) n (d n)) 0 (length xs)
    ∙ all_items (λ n. d (suc n)) xs)

-- one more variable
pub variables_next : (from count number : ℕ) → from + count ≡ number →
    variables from (count + 1) ≡ variables from count ++ var number ∷ []
variables_next from count number e = map-range_with_len_more (λ n. var n) from count number e

instances_of : (xs ns : List Tree) → instances xs (trees_of ns) ≡ trees_of (map (λ t. instance xs t) ns)
instances_of xs [] = refl
instances_of xs (t ∷ ts) = ap (λ us. some (instance xs t) us) (instances_of xs ts)

map_twice : {X Y Z : Type 0} (g : Y → Z) (f : X → Y) (xs : List X) → map g (map f xs) ≡ map (λ x. g (f x)) xs
map_twice g f [] = refl
map_twice g f (x ∷ xs) = ap (λ ys. g (f x) ∷ ys) (map_twice g f xs)

-- the variables stand for the terms of a list
pub variables_instances : (ts : List Tree) → instances ts (trees_of (variables 0 (length ts))) ≡ trees_of ts
variables_instances ts =
    instances_of ts (variables 0 (length ts))
    ∙ ap trees_of (map_twice (λ t. instance ts t) (λ n. var n) (range_with_len 0 (length ts))
    ∙ all_items (λ n. var n) ts)

pub variables_occur : (from count : ℕ) → occurrences_all (trees_of (variables from count)) ≡ range_with_len from count
variables_occur from zero = refl
variables_occur from (suc count) = ap (λ ns. from ∷ ns) (variables_occur (from + 1) count)

module _ (sig : Sig) where
  pub variables_are_patterns : (from count : ℕ) → ArePatterns sig (trees_of (variables from count))
  variables_are_patterns from zero = tt
  variables_are_patterns from (suc count) = (tt, variables_are_patterns (from + 1) count)

  -- they have the sorts of a list that is in the context from that number on
  pub variables_are_sorted :
      (ctx : List SortId) (from : ℕ) (ss : List SortId) → ((k : ℕ) → slice_get ctx (from + k) ≡ slice_get ss k) →
      SortedAll sig ctx (trees_of (variables from (length ss))) ss
  variables_are_sorted ctx from [] h = tt
  variables_are_sorted ctx from (s ∷ ss) h =
      let here : from ≡ from + 0 = omega arith in (
        ap (λ n. slice_get ctx n) here ∙ h 0,
        variables_are_sorted ctx (from + 1) ss (λ k. let e : (from + 1) + k ≡ from + suc k = omega arith in
            ap (λ n. slice_get ctx n) e ∙ h (suc k)),
      )

-- as entries, one more of them
pub entries_next :
    (from number : ℕ) (made : List (Option Tree)) → (from + (number - from) ≡ number) →
    made ≡ map (λ (t : Tree). Some t) (variables from (number - from)) →
    made ++ Some (var number) ∷ [] ≡ map (λ (t : Tree). Some t) (variables from (number + 1 - from))
entries_next from number made within e =
    let count : (number - from) + 1 ≡ number + 1 - from = omega (arith, within) in
    ap (λ es. es ++ Some (var number) ∷ []) e
    ∙ sym (map-append (λ (t : Tree). Some t) (variables from (number - from)) (var number ∷ []))
    ∙ ap (λ ts. map (λ (t : Tree). Some t) ts) (sym (variables_next from (number - from) number within)
    ∙ ap (λ n. variables from n) count)

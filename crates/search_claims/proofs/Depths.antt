-- The values that a search of some depth tries have at most this depth, and at most 255 symbols.
use Rattle.std.proofs.Common.{◌≡◌, ℕ, zero, suc, ◌≤◌, List, [], ◌∷◌, Some, inl, inr, sym, subst, arith}
use Rattle.std.specs.Prelude.{map, slice_get}
use Rattle.std.specs.List.{flat_map, AllByRecursion}
use Rattle.std.proofs.lemmas.Option.{slice_get_within, get_or_from_slice_get}
use Rattle.term_core.specs.Tree.{Tree, app, trees_of, tree_size, tree_depth, depths}
use Rattle.term_core.specs.declared.ids.SortId.{SortId}
use Rattle.term_core.proofs.Members.{In, in_contained}
use Rattle.spec_core.specs.declared.records.Goal.{Goal}
use Rattle.spec_core.specs.declared.records.Spec.{Spec}
use Rattle.spec_core.specs.Order.{product, constructors_of, is_small, values, substitutions}
use Rattle.spec_core.specs.Sig.{Sig}
use Rattle.spec_core.specs.WellSorted.{sorts_of}
use Rattle.refuter.proofs.InLists.{filter_parts, map_parts, flat_map_parts}
use Rattle.refuter.proofs.Progress.{row_small}

-- the values of a row from lists of values of at most this depth
rows_shallow : (V : SortId → List Tree) (depth : ℕ) →
    ((s : SortId) (t : Tree) → In t (V s) → tree_depth t ≤ depth) → (ss : List SortId) (row : List Tree) →
    In row (product (map V ss)) → AllByRecursion (λ t. tree_depth t ≤ depth) row
rows_shallow V depth h [] row (inl e) = subst (λ r. AllByRecursion (λ t. tree_depth t ≤ depth) r) (sym e) tt
rows_shallow V depth h [] row (inr a) = absurd a
rows_shallow V depth h (s ∷ ss) row a =
    let w = flat_map_parts (λ u. map (λ x. u ∷ x) (product (map V ss))) (V s) row a in
    let v = map_parts (λ x. w.0 ∷ x) (product (map V ss)) row w.2 in
    subst (λ r. AllByRecursion (λ t. tree_depth t ≤ depth) r) v.2 (h s w.0 w.1, rows_shallow V depth h ss v.0 v.1)

depths_within : (depth : ℕ) (row : List Tree) → AllByRecursion (λ t. tree_depth t ≤ depth) row →
    depths (trees_of row) ≤ depth
depths_within depth [] a = omega arith
depths_within depth (t ∷ row) a = omega (arith, a.0, depths_within depth row a.1)

module _ (sig : Sig) where
  values_shallow : (depth : ℕ) (s : SortId) (t : Tree) → In t (values sig depth s) → tree_depth t ≤ depth
  values_shallow zero s t a = absurd a
  values_shallow (suc depth) s t a =
      let rows = λ (c : ℕ × List SortId). product (map (λ u. values sig depth u) c.1) in
      let made = λ (c : ℕ × List SortId). map (λ (ts : List Tree). app c.0 (trees_of ts)) (rows c) in
      let w = filter_parts is_small (flat_map made (constructors_of sig s)) t a in
      let c = flat_map_parts made (constructors_of sig s) t w.0 in
      let r = map_parts (λ (ts : List Tree). app c.0.0 (trees_of ts)) (rows c.0) t c.2 in
      let shallow = rows_shallow (λ u. values sig depth u) depth (λ u x b. values_shallow depth u x b) c.0.1 r.0 r.1 in
      subst (λ u. tree_depth u ≤ suc depth) r.2 (omega (arith, depths_within depth r.0 shallow))

module _ (spec : Spec) (goal : Goal) (depth index : ℕ) (row : List Tree) where
  listed : slice_get (substitutions spec goal depth) index ≡ Some row → In row (substitutions spec goal depth)
  listed at = in_contained (substitutions spec goal depth) row (
    index,
    slice_get_within (substitutions spec goal depth) index row at,
    get_or_from_slice_get (substitutions spec goal depth) index row row at,
  )

  pub row_shallow : slice_get (substitutions spec goal depth) index ≡ Some row →
      AllByRecursion (λ t. tree_depth t ≤ depth) row
  row_shallow at = rows_shallow (λ s. values spec.sig depth s) depth
      (λ s t a. values_shallow spec.sig depth s t a) (sorts_of goal.vars) row (listed at)

  pub row_few : slice_get (substitutions spec goal depth) index ≡ Some row → AllByRecursion (λ t. tree_size t ≤ 255) row
  row_few at = row_small spec.sig depth (sorts_of goal.vars) row (listed at)

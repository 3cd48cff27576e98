-- Of two sorted terms at most one is above the other one: the ranks of two ground instances would
-- fall both ways.
use Rattle.std.proofs.Common.{◌≡◌, ℕ, zero, suc, ◌+◌, ◌<◌, List, [], ◌∷◌, Option, Some, None, subst, arith, length}
use Rattle.std.specs.Prelude.{slice_get, slice_index_or}
use Rattle.std.specs.List.{AllByRecursion}
use Rattle.term_core.specs.Contexts.{hole}
use Rattle.term_core.specs.Ground.{IsGroundIn}
use Rattle.term_core.specs.Tree.{Tree, var, instance, tree_depth}
use Rattle.term_core.specs.declared.ids.SortId.{SortId}
use Rattle.spec_core.specs.Declarations.{IsDeclared}
use Rattle.spec_core.specs.Sig.{Sig, IsSort}
use Rattle.spec_core.specs.Sorts.{Sorted}
use Rattle.spec_core.specs.WellSorted.{HasFewArguments}
use Rattle.spec_core.proofs.Instances.{sorted_instance}
use Rattle.term_order.specs.Laws.{IsTermOrder, HasRanks}
use Rattle.descent.proofs.GroundTerms.{sorted_ground}
use Rattle.proof_search.specs.Falling.{NeverRises}

module _ (sig : Sig) where
  -- each variable's entry is a ground term of its sort
  abbrev HasEntries : List SortId → List Tree → Type 0
  HasEntries ctx xs =
      (n : ℕ) (u : SortId) → slice_get ctx n ≡ Some u → (d : Tree) →
      Sorted sig [] (slice_index_or xs n d) u

  one_more :
      (s : SortId) (ctx : List SortId) (v : Tree) (xs : List Tree) → Sorted sig [] v s →
      HasEntries ctx xs → HasEntries (s ∷ ctx) (v ∷ xs)
  one_more s ctx v xs p rest zero u at d =
      let q : ◌≡◌ {A = Option SortId} (Some s) (Some u) = at in
      let same : s ≡ u = cc in
      subst (λ (r : SortId). Sorted sig [] v r) same p
  one_more s ctx v xs p rest (suc n) u at d = rest n u at d

  some_entries :
      IsDeclared sig → (ctx : List SortId) → AllByRecursion (IsSort sig) ctx →
      (xs : List Tree) × HasEntries ctx xs
  some_entries declared [] h = (
    [],
    λ n u at d. absurd (let q : ◌≡◌ {A = Option SortId} None (Some u) = at in cc),
  )
  some_entries declared (s ∷ ss) h =
      let v = declared.small s.0 h.0 in
      let rest = some_entries declared ss h.1 in
      (v.0 ∷ rest.0, one_more s ss v.0 rest.0 v.1.0 rest.1)

module _ (above : Tree → Tree → Type 0) (rank : ℕ → ℕ → Tree → ℕ → Type 0)
    (ranks : HasRanks above rank) where
  never_both :
      (sig : Sig) (ctx : List SortId) (t u : Tree) (s r : SortId) → IsDeclared sig →
      HasFewArguments sig → AllByRecursion (IsSort sig) ctx → Sorted sig ctx t s →
      Sorted sig ctx u r → above t u → above u t → ⊥
  never_both sig ctx t u s r declared few sorts p q down up =
      let entries = some_entries sig declared ctx sorts in
      let xs = entries.0 in
      let n = length sig.table in
      let k = 1 + tree_depth t + tree_depth u in
      let first : IsGroundIn n (instance xs t) =
      sorted_ground sig few (instance xs t) s
      (sorted_instance sig ctx t s xs p (λ m o at. entries.1 m o at (var m))) in
      let second : IsGroundIn n (instance xs u) =
      sorted_ground sig few (instance xs u) r
      (sorted_instance sig ctx u r xs q (λ m o at. entries.1 m o at (var m))) in
      let a = ranks.some_rank n k (instance xs t) (omega arith) first in
      let b = ranks.some_rank n k (instance xs u) (omega arith) second in
      let falls : b.0 < a.0 =
      ranks.in_contexts n k t u xs hole a.0 b.0 (omega arith) down (omega arith) first second
      a.1 b.1 in
      let rises : a.0 < b.0 =
      ranks.in_contexts n k u t xs hole b.0 a.0 (omega arith) up (omega arith) second first
      b.1 a.1 in
      omega (arith, falls, rises)

  pub never_rises : IsTermOrder above → NeverRises above
  never_rises laws sig ctx xs t u s r declared few sorts p q up down =
      never_both sig ctx (instance xs t) (instance xs u) s r declared few sorts p q
      (laws.on_instances xs t u up) down

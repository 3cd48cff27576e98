-- No node of a block has a failing instance, if each goes on to a child or a reference that is allowed.
use Rattle.std.proofs.Common.{◌≡◌, ◌⊎◌, ℕ, zero, suc, ◌+◌, ◌≤◌, ◌<◌, List, Some, inl, inr, subst, arith, length}
use Rattle.std.specs.Prelude.{slice_get, IsPermutation}
use Rattle.std.proofs.lemmas.List.Sorted.{IsPermutation-refl, IsPermutation-trans}
use Rattle.std.proofs.lemmas.Option.{slice_get_within}
use Rattle.term_core.specs.Tree.{Tree}
use Rattle.spec_core.specs.declared.records.Spec.{Spec}
use Rattle.clause_core.specs.declared.clauses.Clause.{Clause}
use Rattle.clause_core.specs.declared.clauses.Relation.{Relation}
use Rattle.clause_core.specs.declared.clauses.Relation.TheVariants.{Less, Same}
use Rattle.clause_core.specs.declared.answers.Children.{Children}
use Rattle.acceptance.specs.Strict.{HasChild, RefersTo, LeadsTo, Strict, strict, ChildIsAllowed, ReferenceIsAllowed}
use Rattle.acceptance.specs.Strict.{AllAreAllowed}
use Rattle.descent.specs.Weights.{IsWeight, IsHeavier, Weighs}
use Rattle.clause_core.specs.Failing.{ClauseFails}
use Rattle.descent.specs.Descent.{GoesTo}
use Rattle.soundness.proofs.Sinking.{Sinks, sinks, all_sink, heavier_as}

module _ (rank : ℕ → ℕ → Tree → ℕ → Type 0) (spec : Spec) (nodes : List Clause) (made : List Children) where
  -- node k goes on to a node of the block
  pub record GoesOnTo (k : ℕ) (c : Clause) (xs : List Tree) : Type 0 where
    pub node : ℕ
    pub relation : Relation
    pub target : Clause
    pub is : slice_get nodes node ≡ Some target
    pub leads : (HasChild made k node relation × (k < node)) ⊎ RefersTo made k node relation
    pub goes : GoesTo rank spec c xs target relation

  module _ (allowed : AllAreAllowed made)
      (weight_of : (k : ℕ) (c : Clause) (xs : List Tree) → slice_get nodes k ≡ Some c → ClauseFails spec c xs →
      (w : List ℕ) × IsWeight rank spec xs c w)
      (descent : (k : ℕ) (c : Clause) (xs : List Tree) → slice_get nodes k ≡ Some c → ClauseFails spec c xs →
      GoesOnTo k c xs) where
    abbrev NoneFails : List ℕ → Type 0
    NoneFails w = (k : ℕ) (c : Clause) (xs : List Tree) (v : List ℕ) → slice_get nodes k ≡ Some c →
        ClauseFails spec c xs → IsWeight rank spec xs c v → IsPermutation w v → ⊥

    leads_to : {k : ℕ} {c : Clause} {xs : List Tree} → (o : GoesOnTo k c xs) → LeadsTo made k o.node o.relation
    leads_to o = elim o.leads [ inl h ↦ inl h.0 | inr h ↦ inr h ]

    module _ (w : List ℕ) (below : (v : List ℕ) → IsHeavier w v → NoneFails v) where
      -- what is Less ends it; what is Same ends it, or weighs as much
      less_ends : {k : ℕ} {c : Clause} {xs : List Tree} → (v : List ℕ) → IsWeight rank spec xs c v →
          IsPermutation w v → (o : GoesOnTo k c xs) → o.relation ≡ Less → ⊥
      less_ends v h p o e =
          let u = weight_of o.node o.target o.goes.others o.is o.goes.fails in
          let heavier : IsHeavier v u.0 = subst (λ r. Weighs r v u.0) e (o.goes.weighs v u.0 h u.1) in
          below u.0 (heavier_as w v u.0 p heavier) o.node o.target o.goes.others u.0 o.is o.goes.fails u.1
          (IsPermutation-refl u.0)

      same_goes : {k : ℕ} {c : Clause} {xs : List Tree} → (v : List ℕ) → IsWeight rank spec xs c v →
          IsPermutation w v → (o : GoesOnTo k c xs) → o.relation ≡ Same →
          ((u : List ℕ) → IsWeight rank spec o.goes.others o.target u → IsPermutation w u → ⊥) → ⊥
      same_goes v h p o e next =
          let u = weight_of o.node o.target o.goes.others o.is o.goes.fails in
          let no_more : IsPermutation v u.0 ⊎ IsHeavier v u.0 = subst (λ r. Weighs r v u.0) e
          (o.goes.weighs v u.0 h u.1) in
          elim no_more [
            | inl q ↦ next u.0 u.1 (IsPermutation-trans w v u.0 p q)
            | inr d ↦ below u.0 (heavier_as w v u.0 p d) o.node o.target o.goes.others u.0 o.is o.goes.fails u.1
                (IsPermutation-refl u.0)
          ]

      -- what a strict node is
      strict_leads : {k : ℕ} → Strict made k → (j : ℕ) (r : Relation) → LeadsTo made k j r →
          (r ≡ Less) ⊎ ((r ≡ Same) × (k < j))
      strict_leads (strict a b) = a

      strict_after : {k : ℕ} → Strict made k → (j : ℕ) → LeadsTo made k j Same → Strict made j
      strict_after (strict a b) = b

      strict_fails_not : (m k : ℕ) → length nodes ≤ k + m → Strict made k →
          (c : Clause) (xs : List Tree) (v : List ℕ) → slice_get nodes k ≡ Some c → ClauseFails spec c xs →
          IsWeight rank spec xs c v → IsPermutation w v → ⊥
      strict_fails_not zero k l s c xs v at fails h p = absurd (omega (arith, l, slice_get_within nodes k c at))
      strict_fails_not (suc m) k l s c xs v at fails h p =
          let o = descent k c xs at fails in
          elim (strict_leads s o.node o.relation (leads_to o)) [
            | inl e ↦ less_ends v h p o e
            | inr q ↦ same_goes v h p o q.0 (λ u z y. strict_fails_not m o.node (omega (arith, l, q.1))
                (strict_after s o.node (subst (λ r. LeadsTo made k o.node r) q.0 (leads_to o))) o.target
                o.goes.others u o.is o.goes.fails z y)
          ]

      any_fails_not : (m k : ℕ) → length nodes ≤ k + m → (c : Clause) (xs : List Tree) (v : List ℕ) →
          slice_get nodes k ≡ Some c → ClauseFails spec c xs → IsWeight rank spec xs c v → IsPermutation w v → ⊥
      any_fails_not zero k l c xs v at fails h p = absurd (omega (arith, l, slice_get_within nodes k c at))
      any_fails_not (suc m) k l c xs v at fails h p =
          let o = descent k c xs at fails in
          let later : (k < o.node) → (u : List ℕ) → IsWeight rank spec o.goes.others o.target u →
          IsPermutation w u → ⊥ = λ q u z y. any_fails_not m o.node (omega (arith, l, q)) o.target
          o.goes.others u o.is o.goes.fails z y in
          elim o.leads [
            | inl q ↦ child o q.1 ((allowed k).children o.node o.relation q.0) later
            | inr q ↦ reference o ((allowed k).refs o.node o.relation q) later
          ]
        where
          child : (o : GoesOnTo k c xs) → k < o.node → ChildIsAllowed made o.relation →
              ((k < o.node) → (u : List ℕ) → IsWeight rank spec o.goes.others o.target u → IsPermutation w u → ⊥) → ⊥
          child o q (inl e) later = less_ends v h p o e
          child o q (inr e) later = same_goes v h p o e (later q)

          reference : (o : GoesOnTo k c xs) → ReferenceIsAllowed made k o.node o.relation →
              ((k < o.node) → (u : List ℕ) → IsWeight rank spec o.goes.others o.target u → IsPermutation w u → ⊥) → ⊥
          reference o (inl e) later = less_ends v h p o e
          reference o (inr (e, inl q)) later = same_goes v h p o e (later q)
          reference o (inr (e, inr s)) later = same_goes v h p o e
              (λ u z y. strict_fails_not (length nodes) o.node (omega arith) s o.target o.goes.others u o.is
              o.goes.fails z y)

    none_of : {w : List ℕ} → Sinks w → NoneFails w
    none_of (sinks w rest) = λ k c xs v at fails h p. any_fails_not w (λ u d. none_of (rest u d)) (length nodes)
        k (omega arith) c xs v at fails h p

    -- no node has a failing instance
    pub none_fails : (k : ℕ) (c : Clause) (xs : List Tree) → slice_get nodes k ≡ Some c → ClauseFails spec c xs → ⊥
    none_fails k c xs at fails = let w = weight_of k c xs at fails in
        none_of (all_sink w.0) k c xs w.0 at fails w.1 (IsPermutation-refl w.0)

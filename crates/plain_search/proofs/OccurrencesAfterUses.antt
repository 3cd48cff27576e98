-- No variable is new after a use of a rule.
use Rattle.std.proofs.Common.{◌≡◌, ℕ, zero, suc, ◌⊎◌, inl, inr, List, [], ◌∷◌, Some, None, subst}
use Rattle.std.specs.Prelude.{slice_get, slice_set}
use Rattle.term_core.specs.Tree.{Tree, Trees, var, app, none, some, trees_of, list_of}
use Rattle.term_core.specs.Places.{IsAt, IsReplaced}
use Rattle.term_core.specs.Variables.{Occurs, OccursAny}
use Rattle.term_core.proofs.Trees.{trees_of-list_of}
use Rattle.spec_core.specs.declared.records.Spec.{Spec}
use Rattle.spec_core.specs.WellSorted.{IsWellSorted, sorts_of}
use Rattle.spec_core.proofs.Determined.{occurs_within}
use Rattle.substitutions.proofs.Instances.{occurs_apply, apply_occurs}
use Rattle.normalization.specs.FirstUses.{IsFirstUse}

argument_occurs : (ts : Trees) (k : ℕ) (t : Tree) (m : ℕ) → slice_get (list_of ts) k ≡ Some t → Occurs m t →
    OccursAny m ts
argument_occurs none k t m at o = absurd (let q : None ≡ Some t = at in cc)
argument_occurs (some u ts) zero t m at o = let q : Some u ≡ Some t = at in let e : t ≡ u = cc in
    inl (subst (λ x. Occurs m x) e o)
argument_occurs (some u ts) (suc k) t m at o = inr (argument_occurs ts k t m at o)

at_occurs : (p : List ℕ) (t s : Tree) (m : ℕ) → IsAt p t s → Occurs m s → Occurs m t
at_occurs [] t s m at o = subst (λ x. Occurs m x) at o
at_occurs (j ∷ p) (var n) s m at o = absurd at
at_occurs (j ∷ p) (app f ts) s m at o = argument_occurs ts at.1.0 at.0 m at.1.2 (at_occurs p at.0 s m at.2 o)

set_occurs : (ts : List Tree) (k : ℕ) (t : Tree) (m : ℕ) → OccursAny m (trees_of (slice_set ts k t)) →
    OccursAny m (trees_of ts) ⊎ Occurs m t
set_occurs [] k t m o = absurd o
set_occurs (u ∷ ts) zero t m (inl o) = inr o
set_occurs (u ∷ ts) zero t m (inr o) = inl (inr o)
set_occurs (u ∷ ts) (suc k) t m (inl o) = inl (inl o)
set_occurs (u ∷ ts) (suc k) t m (inr o) = elim (set_occurs ts k t m o) as (λ _. OccursAny m (trees_of (u ∷ ts))
    ⊎ Occurs m t) [ inl a ↦ inl (inr a) | inr b ↦ inr b ]

made_occurs : (p : List ℕ) (t new u : Tree) (m : ℕ) → IsReplaced p t new u → Occurs m u → Occurs m t ⊎ Occurs m new
made_occurs [] t new u m r o = inr (subst (λ x. Occurs m x) r o)
made_occurs (j ∷ p) (var n) new u m r o = absurd r
made_occurs (j ∷ p) (app f ts) new u m r o =
    let here : OccursAny m r.2 = subst (λ x. Occurs m x) r.6 o in
    let there : OccursAny m (trees_of (slice_set (list_of ts) r.5.0 r.1)) = subst (λ us. OccursAny m us) r.5.2 here in
    elim (set_occurs (list_of ts) r.5.0 r.1 m there) as (λ _. OccursAny m ts ⊎ Occurs m new) [
      | inl a ↦ inl (subst (λ us. OccursAny m us) (trees_of-list_of ts) a)
      | inr b ↦ elim (made_occurs p r.0 new r.1 m r.4 b) as (λ _. OccursAny m ts ⊎ Occurs m new) [
        | inl a ↦ inl (argument_occurs ts r.3.0 r.0 m r.3.2 a)
        | inr n ↦ inr n
      ]
    ]

pub use_occurs : (spec : Spec) → IsWellSorted spec → (t u : Tree) (p : List ℕ) (k m : ℕ) →
    IsFirstUse spec t p k u → Occurs m u → Occurs m t
use_occurs spec fine t u p k m w o =
    elim (made_occurs p t w.new u m w.made o) as (λ _. Occurs m t) [
      | inl a ↦ a
      | inr n ↦ (
          let x = w.rule in
          let sorted = fine.rules x.listed.0 x.rule x.listed.2 in
          let i = occurs_apply x.rule.right x.entries m (subst (λ y. Occurs m y) x.right n) in
          let l = sorted.bound i.0 (occurs_within spec.sig (sorts_of x.rule.vars) x.rule.right sorted.sides.0
          sorted.sides.2 i.0 i.1) in
          let q = apply_occurs x.rule.left x.entries m i.0 l i.2 in
          at_occurs p t w.old m w.at (subst (λ y. Occurs m y) x.left q))
    ]

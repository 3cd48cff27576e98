-- One node has a number, and one goal a name; instances of what is the same are the same.
use Rattle.std.proofs.Common.{◌≡◌, ℕ, List, Some, refl, ap, sym, ◌∙◌}
use Rattle.std.specs.Prelude.{slice_get}
use Rattle.term_core.specs.Tree.{Tree}
use Rattle.spec_core.specs.declared.records.Spec.{Spec}
use Rattle.spec_core.specs.WellSorted.{IsWellSorted}
use Rattle.clause_core.specs.declared.clauses.Clause.{Clause}
use Rattle.clause_core.specs.Limits.{IsWithin}
use Rattle.clause_core.specs.Referred.{NodeAt, UsableGoal, AreTermsFor, instance_here, with_instance}
use Rattle.clause_core.specs.Rows.{Row}
use Rattle.clause_core.proofs.OneAnswer.{Agree, forth, back}

pub one_get : {X : Type 0} (xs : List X) (j k : ℕ) (x y : X) → slice_get xs j ≡ Some x →
    slice_get xs k ≡ Some y → j ≡ k → x ≡ y
one_get xs j k x y p q e = let a : Some x ≡ Some y = sym p ∙ ap (λ n. slice_get xs n) e ∙ q in cc

pub node_one : (nodes : List Clause) (j : ℕ) (m n : NodeAt nodes j) → m.clause ≡ n.clause
node_one nodes j m n = one_get nodes j j m.clause n.clause m.is n.is refl

pub goal_one : (spec : Spec) → IsWellSorted spec →
    (usable : ℕ → Type 0) (name : List ℕ) (g h : UsableGoal spec usable name) → g.goal ≡ h.goal
goal_one spec fine usable name g h = one_get spec.goals g.number h.number g.goal h.goal g.is h.is
    (fine.names g.number h.number g.goal h.goal g.is h.is (g.named ∙ sym h.named))

module _ (spec : Spec) (c : Clause) where
  -- rows agree on an instance if they agree on what comes after it
  pub with_instance_one : (d e : Clause) → d ≡ e → (terms : List Tree) (rest : Clause → Row) →
      ((x y : Clause) → x ≡ y → Agree (rest x) (rest y)) →
      Agree (with_instance spec c d terms rest) (with_instance spec c e terms rest)
  with_instance_one d e p terms rest h = (
    forth (λ x. AreTermsFor spec c x terms) p,
    back (λ x. AreTermsFor spec c x terms) p,
    refl,
    λ m n. (
      forth (λ x. IsWithin (instance_here spec c x terms)) p,
      back (λ x. IsWithin (instance_here spec c x terms)) p,
      refl,
      λ v w. h (instance_here spec c d terms) (instance_here spec c e terms) (ap (λ x. instance_here spec c x terms) p),
    ),
  )

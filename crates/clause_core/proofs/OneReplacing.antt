-- `context`, `hyp` and `lemma` say one thing.
use Rattle.std.proofs.Common.{◌≡◌, ℕ, List, [], ◌∷◌, Bool, not, refl, ap, sym, ◌∙◌}
use Rattle.term_core.specs.Tree.{Tree}
use Rattle.spec_core.specs.declared.records.Spec.{Spec}
use Rattle.spec_core.specs.WellSorted.{IsWellSorted}
use Rattle.clause_core.specs.declared.clauses.Clause.{Clause}
use Rattle.clause_core.specs.Tidied.{goal_clause}
use Rattle.clause_core.specs.declared.steps.Place.{Place}
use Rattle.clause_core.specs.Places.{side, holding}
use Rattle.clause_core.specs.Rows.{compared_child}
use Rattle.clause_core.specs.Replacing.{Rewrites, replaced_by, rewritten_by, context_row, hyp_row, lemma_row}
use Rattle.clause_core.proofs.OneAnswer.{Agree, forth, back}
use Rattle.clause_core.proofs.OnePlace.{equation_one, term_one}
use Rattle.clause_core.proofs.OneReferred.{node_one, goal_one, with_instance_one}

only_one : {X : Type 0} (xs : List X) (x y : X) → xs ≡ x ∷ [] → xs ≡ y ∷ [] → x ≡ y
only_one xs x y p q = let e : x ∷ [] ≡ y ∷ [] = sym p ∙ q in cc

module _ (spec : Spec) (fine : IsWellSorted spec) (c : Clause) where
  pub context_one : (place : Place) (n : ℕ) (left : Bool) →
      Agree (context_row spec c place n left) (context_row spec c place n left)
  context_one place n left = (
    λ p. p,
    λ p. p,
    refl,
    λ at bt.
        let p = term_one c place at.0 bt.0 in
        let e = equation_one c.premises n at.1 bt.1 in
        let h : holding at.0 (side (not left) at.1.equation) ≡ holding bt.0
        (side (not left) bt.1.equation) = p.1 (side (not left) at.1.equation)
        (side (not left) bt.1.equation) (ap (λ x. side (not left) x) e.1) in (
          λ s. sym (ap (λ x. side left x) e.1) ∙ s ∙ p.0,
          λ s. ap (λ x. side left x) e.1 ∙ s ∙ sym p.0,
          refl,
          λ s t. (λ i. compared_child (h i) ∷ [], refl),
        ),
  )

  replaced_one : (d e : Clause) → d ≡ e → (place : Place) (left : Bool) (rs ss : List (ℕ × Clause)) → rs ≡ ss →
      Agree (replaced_by spec c d place left rs) (replaced_by spec c e place left ss)
  replaced_one d e p place left rs ss q = (
    λ t. t,
    λ t. t,
    refl,
    λ at bt.
        let o = term_one c place at bt in
        let both : ◌≡◌ {A = Clause × Tree} (d, at.term) (e, bt.term) = λ i. (p i, o.0 i) in
        let P : Clause × Tree → Type 0 = λ z. Rewrites c z.0 z.1 left in (
          forth P both,
          back P both,
          refl,
          λ a b.
              let w : a.equation ≡ b.equation = only_one d.conclusions a.equation b.equation a.alone
              (ap (λ (z : Clause). z.conclusions) p ∙ b.alone) in
              let h : holding at (side (not left) a.equation) ≡ holding bt (side (not left) b.equation) = o.1
              (side (not left) a.equation) (side (not left) b.equation) (ap (λ z. side (not left) z) w) in
              (λ i. compared_child (h i) ∷ [], q),
        ),
  )

  rewritten_one : (d e : Clause) → d ≡ e → (terms : List Tree) (place : Place) (left : Bool) (refs : Clause →
      List (ℕ × Clause)) → Agree (rewritten_by spec c d terms place left refs)
      (rewritten_by spec c e terms place left refs)
  rewritten_one d e p terms place left refs =
      with_instance_one spec c d e p terms (λ x. replaced_by spec c x place left (refs x))
      (λ x y q. replaced_one x y q place left (refs x) (refs y) (ap refs q))

  pub hyp_one : (nodes : List Clause) (j : ℕ) (terms : List Tree) (place : Place) (left : Bool) →
      Agree (hyp_row spec c nodes j terms place left) (hyp_row spec c nodes j terms place left)
  hyp_one nodes j terms place left = (
    λ p. p,
    λ p. p,
    refl,
    λ m n. rewritten_one m.clause n.clause (node_one nodes j m n) terms place left (λ x. (j, x) ∷ []),
  )

  pub lemma_one : (usable : ℕ → Type 0) (name : List ℕ) (terms : List Tree) (place : Place) (left : Bool) →
      Agree (lemma_row spec c usable name terms place left) (lemma_row spec c usable name terms place left)
  lemma_one usable name terms place left = (
    λ p. p,
    λ p. p,
    refl,
    λ g h. rewritten_one (goal_clause g.goal) (goal_clause h.goal)
        (ap goal_clause (goal_one spec fine usable name g h)) terms place left (λ x. []),
  )

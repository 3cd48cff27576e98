-- `subsume` and `by-lemma` say one thing.
use Rattle.std.proofs.Common.{◌≡◌, ℕ, List, [], ◌∷◌, refl, ap}
use Rattle.term_core.specs.Tree.{Tree}
use Rattle.spec_core.specs.declared.records.Spec.{Spec}
use Rattle.spec_core.specs.WellSorted.{IsWellSorted}
use Rattle.clause_core.specs.declared.clauses.Clause.{Clause}
use Rattle.clause_core.specs.Tidied.{goal_clause}
use Rattle.clause_core.specs.declared.answers.Why.TheVariants.{DoesNotFit}
use Rattle.clause_core.specs.Rows.{needs, makes}
use Rattle.clause_core.specs.Subsuming.{Subsumes, subsumed_by, subsume_row, by_lemma_row}
use Rattle.clause_core.proofs.OneAnswer.{Agree, forth, back}
use Rattle.clause_core.proofs.OneReferred.{node_one, goal_one, with_instance_one}

module _ (spec : Spec) (fine : IsWellSorted spec) (c : Clause) where
  subsumed_one : (d e : Clause) → d ≡ e → (terms : List Tree) (refs : Clause → List (ℕ × Clause)) →
      Agree (subsumed_by spec c d terms refs) (subsumed_by spec c e terms refs)
  subsumed_one d e p terms refs =
      with_instance_one spec c d e p terms (λ x. needs (Subsumes c x) DoesNotFit (λ s. makes [] (refs x)))
      (λ x y q. (forth (λ z. Subsumes c z) q, back (λ z. Subsumes c z) q, refl, λ m n. (refl, ap refs q)))

  pub subsume_one : (nodes : List Clause) (j : ℕ) (terms : List Tree) →
      Agree (subsume_row spec c nodes j terms) (subsume_row spec c nodes j terms)
  subsume_one nodes j terms = (
    λ p. p,
    λ p. p,
    refl,
    λ m n. subsumed_one m.clause n.clause (node_one nodes j m n) terms (λ x. (j, x) ∷ []),
  )

  pub by_lemma_one : (usable : ℕ → Type 0) (name : List ℕ) (terms : List Tree) →
      Agree (by_lemma_row spec c usable name terms) (by_lemma_row spec c usable name terms)
  by_lemma_one usable name terms = (
    λ p. p,
    λ p. p,
    refl,
    λ g h. subsumed_one (goal_clause g.goal) (goal_clause h.goal)
        (ap goal_clause (goal_one spec fine usable name g h)) terms (λ x. []),
  )

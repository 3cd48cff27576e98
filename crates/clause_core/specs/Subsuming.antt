-- The rows of the steps that close a node by another clause: `subsume` and `by-lemma`.
use Rattle.std.specs.Prelude.{ℕ, List, [], ◌∷◌}
use Rattle.std.specs.List.{AllByRecursion}
use Rattle.term_core.specs.Tree.{Tree}
use Rattle.spec_core.specs.declared.records.Equation.{Equation}
use Rattle.spec_core.specs.declared.records.Spec.{Spec}
use Rattle.clause_core.specs.declared.clauses.Clause.{Clause}
use Rattle.clause_core.specs.Tidied.{goal_clause}
use Rattle.clause_core.specs.declared.answers.Why.TheVariants.{NoSuchNode, DoesNotFit, NotProvedBefore}
use Rattle.clause_core.specs.Equations.{Among}
use Rattle.clause_core.specs.Rows.{Row, needs, makes}
use Rattle.clause_core.specs.Referred.{NodeAt, UsableGoal, PremisesAreThere, with_instance}

-- the premises of d are there, and each conclusion of d is among the conclusions of c
abbrev pub Subsumes : Clause → Clause → Type 0
Subsumes c d =
    PremisesAreThere c d × AllByRecursion (λ (e : Equation). Among e c.conclusions) d.conclusions

module _ (spec : Spec) (c : Clause) where
  -- what `subsume` and `by-lemma` have in common
  abbrev pub subsumed_by : Clause → List Tree → (Clause → List (ℕ × Clause)) → Row
  subsumed_by d terms refs =
      with_instance spec c d terms (λ instance.
      needs (Subsumes c instance) DoesNotFit (λ subsumes.
      makes [] (refs instance)))

  abbrev pub subsume_row : List Clause → ℕ → List Tree → Row
  subsume_row nodes number terms =
      needs (NodeAt nodes number) NoSuchNode (λ node.
      subsumed_by node.clause terms (λ instance. (number, instance) ∷ []))

  abbrev pub by_lemma_row : (ℕ → Type 0) → List ℕ → List Tree → Row
  by_lemma_row usable name terms =
      needs (UsableGoal spec usable name) NotProvedBefore (λ lemma.
      subsumed_by (goal_clause lemma.goal) terms (λ instance. []))

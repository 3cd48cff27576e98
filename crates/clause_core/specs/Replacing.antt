-- The rows of the steps that replace a term by an equation: of a premise, of a node as a hypothesis,
-- or of a lemma (`context`, `hyp` and `lemma`).
use Rattle.std.specs.Prelude.{◌≡◌, ℕ, List, [], ◌∷◌, Bool, not}
use Rattle.term_core.specs.Tree.{Tree}
use Rattle.spec_core.specs.declared.records.Equation.{Equation}
use Rattle.spec_core.specs.declared.records.Spec.{Spec}
use Rattle.clause_core.specs.declared.clauses.Clause.{Clause}
use Rattle.clause_core.specs.declared.steps.Place.{Place}
use Rattle.clause_core.specs.declared.answers.Why.TheVariants.{NoSuchNode, NoSuchPlace, DoesNotFit, NotProvedBefore}
use Rattle.clause_core.specs.Tidied.{goal_clause}
use Rattle.clause_core.specs.NumberedEquations.{EquationAt}
use Rattle.clause_core.specs.Places.{TermAt, side, holding}
use Rattle.clause_core.specs.Referred.{NodeAt, UsableGoal, PremisesAreThere, with_instance}
use Rattle.clause_core.specs.Rows.{Row, compared_child, needs, makes}

-- d has one conclusion, of which this side is the term, and the premises of d are there
pub record Rewrites (c d : Clause) (t : Tree) (left : Bool) : Type 0 where
  pub equation : Equation
  pub alone : d.conclusions ≡ equation ∷ []
  pub premises : PremisesAreThere c d
  pub is : side left equation ≡ t

module _ (spec : Spec) (c : Clause) where
  abbrev pub context_row : Place → ℕ → Bool → Row
  context_row place number left =
      needs (TermAt c place × EquationAt c.premises number) NoSuchPlace (λ at.
      needs (side left at.1.equation ≡ at.0.term) DoesNotFit (λ same.
      makes (compared_child (holding at.0 (side (not left) at.1.equation)) ∷ []) []))

  -- the place holds the other side of the conclusion of d
  abbrev pub replaced_by : Clause → Place → Bool → List (ℕ × Clause) → Row
  replaced_by d place left refs =
      needs (TermAt c place) NoSuchPlace (λ at.
      needs (Rewrites c d at.term left) DoesNotFit (λ rewrites.
      makes (compared_child (holding at (side (not left) rewrites.equation)) ∷ []) refs))

  -- what `hyp` and `lemma` have in common
  abbrev pub rewritten_by : Clause → List Tree → Place → Bool → (Clause → List (ℕ × Clause)) → Row
  rewritten_by d terms place left refs =
      with_instance spec c d terms (λ instance. replaced_by instance place left (refs instance))

  abbrev pub hyp_row : List Clause → ℕ → List Tree → Place → Bool → Row
  hyp_row nodes number terms place left =
      needs (NodeAt nodes number) NoSuchNode (λ node.
      rewritten_by node.clause terms place left (λ instance. (number, instance) ∷ []))

  abbrev pub lemma_row : (ℕ → Type 0) → List ℕ → List Tree → Place → Bool → Row
  lemma_row usable name terms place left =
      needs (UsableGoal spec usable name) NotProvedBefore (λ lemma.
      rewritten_by (goal_clause lemma.goal) terms place left (λ instance. []))

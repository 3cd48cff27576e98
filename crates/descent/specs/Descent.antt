-- One step of descent: a failing instance of a node goes on to a child, or to a node that is
-- referred to.
use Rattle.std.specs.Prelude.{◌≡◌, ◌⊎◌, ℕ, List, Contains, Some, Ok, slice_get}
use Rattle.term_core.specs.Tree.{Tree}
use Rattle.spec_core.specs.declared.records.Goal.{Goal}
use Rattle.spec_core.specs.declared.records.Spec.{Spec}
use Rattle.spec_core.specs.Truth.{GoalIsTrue}
use Rattle.spec_core.specs.WellSorted.{IsWellSorted}
use Rattle.clause_core.specs.declared.clauses.Clause.{Clause}
use Rattle.clause_core.specs.declared.clauses.Relation.{Relation}
use Rattle.clause_core.specs.declared.steps.Step.{Step}
use Rattle.clause_core.specs.declared.answers.Child.{Child}
use Rattle.clause_core.specs.declared.answers.Children.{Children}
use Rattle.clause_core.specs.declared.answers.Reference.{Reference}
use Rattle.clause_core.specs.Admitted.{IsAdmitted}
use Rattle.clause_core.specs.Clauses.{ClauseIsSorted}
use Rattle.clause_core.specs.Failing.{ClauseFails}
use Rattle.clause_core.specs.Says.{Says}
use Rattle.clause_core.specs.Steps.{row_of}
use Rattle.descent.specs.Weights.{IsWeight, Weighs}
use Rattle.descent.specs.SortedChildren.{NodesAreSorted}

-- the goals of these numbers are true
abbrev pub AreTrue : Spec → List ℕ → Type 0
AreTrue spec numbers =
    (n : ℕ) (goal : Goal) → Contains numbers n → slice_get spec.goals n ≡ Some goal →
    GoalIsTrue spec goal

module _ (rank : ℕ → ℕ → Tree → ℕ → Type 0) (spec : Spec) where
  -- d fails under values of its own, and weighs under them what the relation says, beside c
  pub record GoesTo
      (c : Clause) (values : List Tree) (d : Clause) (relation : Relation) : Type 0 where
    pub others : List Tree
    pub fails : ClauseFails spec d others
    pub weighs :
        (w v : List ℕ) → IsWeight rank spec values c w → IsWeight rank spec others d v →
        Weighs relation w v

  -- some child fails so, by its relation
  abbrev pub GoesToChild : Clause → List Tree → Children → Type 0
  GoesToChild c values made =
      (i : ℕ) × (d : Child) × (slice_get made.clauses i ≡ Some d) ×
      GoesTo c values d.clause d.relation

  -- some node that is referred to fails so, by the reference's relation
  abbrev pub GoesToNode : List Clause → Clause → List Tree → Children → Type 0
  GoesToNode nodes c values made =
      (i : ℕ) × (r : Reference) × (d : Clause) × (slice_get made.refs i ≡ Some r) ×
      (slice_get nodes r.node ≡ Some d) × GoesTo c values d r.relation

  abbrev pub GoesOn : List Clause → Clause → List Tree → Children → Type 0
  GoesOn nodes c values made = GoesToChild c values made ⊎ GoesToNode nodes c values made

-- if the goals that may be used are true, each failing instance of a node goes on by what this
-- step makes
abbrev pub StepDescends : (Tree → Tree → Type 0) → (ℕ → ℕ → Tree → ℕ → Type 0) → Step → Type 0
StepDescends above rank step =
    (spec : Spec) (numbers : List ℕ) (nodes : List Clause) (c : Clause) (made : Children)
    (values : List Tree) →
    IsWellSorted spec → IsAdmitted above spec → AreTrue spec numbers →
    NodesAreSorted spec.sig nodes → ClauseIsSorted spec.sig c →
    Says above c nodes (row_of spec (Contains numbers) nodes c step) (Ok made) →
    ClauseFails spec c values → GoesOn rank spec nodes c values made

abbrev pub StepsDescend : (Tree → Tree → Type 0) → (ℕ → ℕ → Tree → ℕ → Type 0) → Type 0
StepsDescend above rank = (step : Step) → StepDescends above rank step

-- The entries of the list that refer to a clause: to that of a node, or to that of a goal.
use Rattle.std.specs.Prelude.{ℕ, Bool, true, false, cond, List, [], ◌∷◌, ◌++◌, length}
use Rattle.term_core.specs.Tree.{Tree}
use Rattle.spec_core.specs.declared.records.Equation.{Equation}
use Rattle.clause_core.specs.declared.clauses.Clause.{Clause}
use Rattle.clause_core.specs.declared.steps.Place.{Place}
use Rattle.clause_core.specs.Places.{side}
use Rattle.clause_core.specs.declared.steps.Step.{Step}
use Rattle.clause_core.specs.declared.steps.Step.TheVariants.{Subsume, ByLemma, Hyp, Lemma}
use Rattle.fitting_lists.specs.Fitting.{both_sides}
use Rattle.clause_places.specs.Spots.{Spot, spots}
use Rattle.routine_proof.specs.Candidates.{Asks, nothing, reference_not_neither, all_less, Candidate, each}
use Rattle.routine_proof.specs.Entries.{by_fitting, by_rewriting}
use Rattle.proof_search.specs.declared.falling_sides.FallingSides.{FallingSides}
use Rattle.proof_search.specs.FallingSides.{marked}
use Rattle.proof_search.specs.declared.referring.Referral.{Referral}
use Rattle.proof_search.specs.declared.referring.Referral.TheVariants.{Node, Goal}

-- the node with this number, or the goal of this name
pub data Target : Type 0 where
  node : ℕ → Target
  goal : List ℕ → Target

abbrev pub target_of : Referral → Target
target_of (Node number) = node number
target_of (Goal name) = goal name.now

abbrev pub closing_step : Target → List Tree → Step
closing_step (node number) list = Subsume number list
closing_step (goal name) list = ByLemma name list

abbrev pub closing_asks : Target → Asks
closing_asks (node number) = reference_not_neither
closing_asks (goal name) = nothing

abbrev pub rewriting_step : Target → Place → List Tree → Bool → Step
rewriting_step (node number) place list left = Hyp number list place left
rewriting_step (goal name) place list left = Lemma name list place left

-- the steps that close the node of the first clause by the other one
abbrev pub closings : Clause → Target → Clause → List Candidate
closings here target d = by_fitting here d (closing_asks target) (closing_step target)

-- those for one equation of the node, whose sides these are
abbrev pub closing : Target → Clause → Equation → Tree → Tree → Candidate
closing target d e left right = record {
  question = record {
    variables = length d.ctx;
    patterns = both_sides e;
    terms = left ∷ right ∷ [];
  };
  step = closing_step target;
  asks = closing_asks target;
}

-- those for one equation of the node, as written and with its sides swapped
abbrev pub closing_pair : Target → Clause → Equation → Equation → List Candidate
closing_pair target d e own =
    closing target d e own.left own.right ∷ closing target d e own.right own.left ∷ []

abbrev pub rewritings_at : Target → Clause → Spot → List Candidate
rewritings_at target d s = by_rewriting d (rewriting_step target s.place) s

-- the steps that rewrite a term of the first clause by the other one
abbrev pub rewritings : Clause → Target → Clause → List Candidate
rewritings here target d = each (spots here) (rewritings_at target d)

-- that for one side
abbrev pub rewriting_by : Target → Clause → Place → Tree → Bool → Tree → Candidate
rewriting_by target d place term left side = record {
  question = record { variables = length d.ctx; patterns = side ∷ []; terms = term ∷ [] };
  step = λ list. rewriting_step target place list left;
  asks = all_less;
}

-- those for one side of the equation, the left one if true, if it may fall
abbrev pub falling_rewriting :
    Target → Clause → Place → Tree → Equation → FallingSides → Bool → List Candidate
falling_rewriting target d place term e sides left =
    cond (marked left sides) (rewriting_by target d place term left (side left e) ∷ []) []

-- those for both sides
abbrev pub falling_rewritings :
    Target → Clause → Place → Tree → Equation → FallingSides → List Candidate
falling_rewritings target d place term e sides =
    falling_rewriting target d place term e sides true
    ++ falling_rewriting target d place term e sides false

-- The steps that close a node by a clause, by the equations of the node.
use Rattle.std.proofs.Common.{◌≡◌, List, [], ◌∷◌, ◌++◌, refl, ap, ◌∙◌, map}
use Rattle.std.specs.Prelude.{flat_map}
use Rattle.spec_core.specs.declared.records.Equation.{Equation}
use Rattle.clause_core.specs.declared.clauses.Clause.{Clause}
use Rattle.clause_core.specs.Equations.{swapped}
use Rattle.clause_core.specs.NumberedEquations.{equations}
use Rattle.fitting_lists.specs.Questions.{Question}
use Rattle.fitting_lists.specs.Fitting.{Located, leading, fitting}
use Rattle.routine_proof.specs.Candidates.{Candidate, each}
use Rattle.routine_proof.specs.Entries.{by_fitting}
use Rattle.proof_search.specs.Referring.{Target, closing_step, closing_asks, closing_pair, closings}

module _ (here d : Clause) (target : Target) where
  abbrev candidate : Question → Candidate
  candidate q = record {
    question = q;
    step = closing_step target;
    asks = closing_asks target;
  }

  -- the questions for the leading equation and these equations
  abbrev questions : Equation → List Equation → List Question
  questions e es = flat_map (λ (own : Equation). map (fitting d e) (own ∷ swapped own ∷ [])) es

  abbrev all_questions : List Located → List Question
  all_questions ls =
      flat_map (λ (e : Located). questions e.equation (equations e.conclusion here)) ls

  pairs :
      (e : Equation) (es : List Equation) →
      map candidate (questions e es ++ []) ≡ each es (closing_pair target d e)
  unfolding each
  pairs e [] = refl
  pairs e (own ∷ es) = ap (λ (l : List Candidate). closing_pair target d e own ++ l) (pairs e es)

  -- by the equations of the leading equation's kind
  pub by_equations :
      (e : Located) → leading d ≡ e ∷ [] →
      closings here target d ≡ each (equations e.conclusion here) (closing_pair target d e.equation)
  unfolding by_fitting
  by_equations e is =
      ap (λ (ls : List Located). map candidate (all_questions ls)) is
      ∙ pairs e.equation (equations e.conclusion here)

  -- without a leading equation there are none
  pub by_none : leading d ≡ [] → closings here target d ≡ []
  unfolding by_fitting
  by_none is = ap (λ (ls : List Located). map candidate (all_questions ls)) is

-- What the steps that replace a term by an equation say over naturals.
use Rattle.std.specs.Prelude.{List, [], ◌∷◌, true, false, Err, codes}
use Rattle.term_core.specs.Tree.{Tree, var}
use Rattle.spec_core.specs.declared.records.Equation.{Equation}
use Rattle.spec_core.specs.Naturals.{naturals, zero_term, succ_term, plus_term}
use Rattle.clause_core.specs.declared.clauses.Clause.{Clause}
use Rattle.clause_core.specs.ClauseExamples.{equals, claims, implies}
use Rattle.clause_core.specs.declared.steps.Place.{Place}
use Rattle.clause_core.specs.declared.steps.Step.TheVariants.{Context, Hyp, Lemma}
use Rattle.clause_core.specs.declared.answers.Why.TheVariants.{DoesNotFit, Sort}
use Rattle.clause_core.specs.ClosingExamples.{unit_where_zero}
use Rattle.clause_core.specs.ExampleClauses.{one, unit_of, unit_clause, conclusion_side, SaysAlone, SaysWithGoal}
use Rattle.clause_core.specs.ExampleClauses.{SaysBehind, less, less_than_first, gives}

-- => succ(plus(?0, zero)) = succ(?0), and => succ(?0) = succ(?0)
abbrev pub succ_sides : Equation
succ_sides = equals (succ_term (plus_term (var 0) zero_term)) (succ_term (var 0))

abbrev pub succ_clause : Clause
succ_clause = claims one succ_sides

abbrev pub same_succ : Equation
same_succ = equals (succ_term (var 0)) (succ_term (var 0))

-- the first argument of the left side of the first conclusion
abbrev pub first_argument : Place
first_argument = conclusion_side true (1 ∷ [])

-- the left side of the first premise
abbrev pub premise_side : Place
premise_side = record { conclusion = false; number = 1; left = true; path = [] }

-- ?0 for the only variable
abbrev pub itself : List Tree
itself = var 0 ∷ []

pub record ReplacingExamples : Type 0 where
  -- in plus(?0, zero) = ?0 => succ(plus(?0, zero)) = succ(?0) the premise makes
  -- => succ(?0) = succ(?0), which is less
  pub by_premise : SaysAlone naturals (implies one (unit_of (var 0)) succ_sides)
      (Context first_argument 1 true) (gives (less (implies one (unit_of (var 0)) same_succ) ∷ [])
      [])
  -- its right side isn't at that place
  pub not_by_premise : SaysAlone naturals (implies one (unit_of (var 0)) succ_sides)
      (Context first_argument 1 false) (Err DoesNotFit)
  -- in the premise itself it makes ?0 = ?0
  pub in_itself : SaysAlone naturals (implies one (unit_of (var 0)) succ_sides)
      (Context premise_side 1 true) (gives
      (less (implies one (equals (var 0) (var 0)) succ_sides) ∷ []) [])
  -- the node 0 makes => succ(?0) = succ(?0) too, and is less itself; so does the goal `unit` as a lemma
  pub by_hypothesis : SaysBehind unit_clause succ_clause (Hyp 0 itself first_argument true)
      (gives (less (claims one same_succ) ∷ []) (less_than_first ∷ []))
  pub by_goal : SaysWithGoal 1 succ_clause (Lemma (codes "unit") itself first_argument true)
      (gives (less (claims one same_succ) ∷ []) [])
  -- ?0 = zero => plus(?0, zero) = ?0 doesn't, since its premise isn't there
  pub without_premise : SaysBehind unit_where_zero succ_clause (Hyp 0 itself first_argument true)
      (Err DoesNotFit)
  -- the goal has one variable, and from right to left its side is no plus(?0, zero)
  pub no_terms : SaysWithGoal 1 succ_clause (Lemma (codes "unit") [] first_argument true) (Err Sort)
  pub from_the_right : SaysWithGoal 1 succ_clause (Lemma (codes "unit") itself first_argument false)
      (Err DoesNotFit)

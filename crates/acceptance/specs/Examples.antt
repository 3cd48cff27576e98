-- What the definitions say of reports on naturals with addition, where the goals are
-- same: plus(x, y) = plus(x, x) and unit: plus(x, zero) = x.
use Rattle.std.specs.Prelude.{ℕ, List, [], ◌∷◌, ◌++◌, false, true, codes}
use Rattle.term_core.specs.Tree.{Tree, var}
use Rattle.spec_core.specs.declared.records.Goal.{Goal}
use Rattle.spec_core.specs.declared.records.Spec.{Spec}
use Rattle.spec_core.specs.Naturals.{naturals, unit_goal, zero_term, succ_term}
use Rattle.sample_specs.specs.SumOrder.{AboveInSums}
use Rattle.clause_core.specs.declared.steps.Step.{Step}
use Rattle.clause_core.specs.declared.steps.Step.TheVariants.{Trivial, Subsume, ByLemma, Rule, Decompose, Cover}
use Rattle.clause_core.specs.declared.answers.Why.TheVariants.{NoSuchNode, NotProvedBefore, NotCovering}
use Rattle.clause_core.specs.declared.reports.ReplayWhy.{ReplayWhy}
use Rattle.clause_core.specs.declared.reports.ReplayWhy.TheVariants.{UnknownGoal, GoalTwice, Step as of_step, Pending}
use Rattle.clause_core.specs.declared.reports.ReplayWhy.TheVariants.{NotSmaller, Variables, NotFalse}
use Rattle.clause_core.specs.declared.reports.Claim.{Claim}
use Rattle.clause_core.specs.declared.reports.Outcome.TheVariants.{Proved, Refuted, Open}
use Rattle.clause_core.specs.declared.reports.Report.{Report}
use Rattle.clause_core.specs.ExampleClauses.{conclusion_side}
use Rattle.clause_core.specs.TableExamples.{zero_or_succ}
use Rattle.acceptance.specs.Accepting.{NamedValues, IsAccepted}
use Rattle.acceptance.specs.Refusals.{IsFirstRefusal}

-- the claim that the goal unit is proved by these steps, and a report of it alone
abbrev pub proves_unit : List Step → Claim
proves_unit steps = record { goal = codes "unit"; outcome = Proved (record { steps = steps }) }

abbrev pub only : Claim → Report
only claim = record { steps = 1; claims = claim ∷ [] }

-- the claim that the goal of this name fails under the values
abbrev pub refutes : List ℕ → NamedValues → Claim
refutes name values = record { goal = name; outcome = Refuted 1 values }

-- naturals with the goal unit, and with the same goal under another name
abbrev pub again_goal : Goal
again_goal = record unit_goal { name = codes "again" }

abbrev pub two_units : Spec
two_units = record naturals { goals = unit_goal ∷ again_goal ∷ [] }

-- by-lemma NAME and terms, as the only step
abbrev pub by_lemma : List ℕ → List Tree → List Step
by_lemma name terms = ByLemma name terms ∷ []

-- the claim that the goal again is proved by the goal unit
abbrev pub proves_again : Claim
proves_again = record {
  goal = codes "again";
  outcome = Proved (record { steps = by_lemma (codes "unit") (var 0 ∷ []) });
}

-- the claim that the goal same is open
abbrev pub leaves_open : Claim
leaves_open = record {
  goal = codes "same";
  outcome = Open (record { depth = 1; tried = 1; skipped = 0; cut = false; plain = 0; nodes = 0 });
}

-- cover ?0 [_], for zero and for succ(_)
abbrev pub by_cases : Step
by_cases = Cover (record { 0 = 0 }) zero_or_succ

-- rule c1.l and a number
abbrev pub by_rule : ℕ → Step
by_rule number = Rule (conclusion_side true []) number

-- cover ?0 [zero, succ(_)], rule c1.l 1, rule c1.l 2, trivial c1, decompose c1, subsume 0 [?0]
abbrev pub unit_steps : List Step
unit_steps =
    by_cases ∷ by_rule 1 ∷ by_rule 2 ∷ Trivial 1 ∷ Decompose true 1 ∷ Subsume 0 (var 0 ∷ []) ∷ []

-- cover ?0 [zero, succ(_)], subsume 0 [zero], subsume 0 [succ(?0)]: each case by the goal itself
abbrev pub circular_steps : List Step
circular_steps =
    by_cases ∷ Subsume 0 (zero_term ∷ []) ∷ Subsume 0 (succ_term (var 0) ∷ []) ∷ []

-- values of x and y
abbrev pub x_and_y : Tree → Tree → NamedValues
x_and_y x y = (codes "x", x) ∷ (codes "y", y) ∷ []

abbrev pub AcceptedOnNaturals : Report → Type 0
AcceptedOnNaturals report = IsAccepted AboveInSums naturals report

abbrev pub RefusedOnNaturals : Report → ℕ → ReplayWhy → Type 0
RefusedOnNaturals report line why = IsFirstRefusal AboveInSums naturals report line why

pub record WorkedExamples : Type 0 where
  -- a proof of plus(x, zero) = x by cases of x, after an open claim
  pub accepted : AcceptedOnNaturals (only (proves_unit unit_steps))
  pub behind_open :
      AcceptedOnNaturals (record { steps = 1; claims = leaves_open ∷ proves_unit unit_steps ∷ [] })
  -- a goal that is proved may be used
  pub by_proved :
      IsAccepted AboveInSums two_units
      (record { steps = 1; claims = proves_unit unit_steps ∷ proves_again ∷ [] })
  -- if each case is shown by the goal itself, the second step refers to what isn't smaller
  pub circular : RefusedOnNaturals (only (proves_unit circular_steps)) 5 NotSmaller
  -- a step too many has no node, and with the first step alone two nodes have none
  pub step_too_many :
      RefusedOnNaturals (only (proves_unit (unit_steps ++ Trivial 1 ∷ []))) 10 (of_step NoSuchNode)
  pub unfinished : RefusedOnNaturals (only (proves_unit (by_cases ∷ []))) 3 Pending
  -- a goal is claimed once
  pub claimed_twice :
      RefusedOnNaturals
      (record { steps = 1; claims = proves_unit unit_steps ∷ proves_unit unit_steps ∷ [] })
      10 GoalTwice
  -- zero alone doesn't cover the naturals
  pub case_left_out :
      RefusedOnNaturals (only (proves_unit (Cover (record { 0 = 0 }) (zero_term ∷ []) ∷ []))) 4
      (of_step NotCovering)
  -- a goal may not be used in its own proof, nor one that is open
  pub by_itself :
      RefusedOnNaturals (only (proves_unit (by_lemma (codes "unit") (var 0 ∷ [])))) 4
      (of_step NotProvedBefore)
  pub by_open :
      RefusedOnNaturals
      (record {
        steps = 1;
        claims = leaves_open ∷ proves_unit (by_lemma (codes "same") (var 0 ∷ var 0 ∷ [])) ∷ [];
      })
      5 (of_step NotProvedBefore)
  -- plus(x, y) = plus(x, x) fails at x = zero, y = succ(zero), and not at x = y = zero
  pub refuted :
      AcceptedOnNaturals (only (refutes (codes "same") (x_and_y zero_term (succ_term zero_term))))
  pub not_refuted :
      RefusedOnNaturals (only (refutes (codes "same") (x_and_y zero_term zero_term))) 3 NotFalse
  -- values are in the order of the variables, and no goal has another name
  pub exchanged_names :
      RefusedOnNaturals
      (only
      (refutes (codes "same") ((codes "y", succ_term zero_term) ∷ (codes "x", zero_term) ∷ [])))
      3 Variables
  pub unknown_goal :
      RefusedOnNaturals (only (refutes (codes "worse") (x_and_y zero_term (succ_term zero_term)))) 3
      UnknownGoal

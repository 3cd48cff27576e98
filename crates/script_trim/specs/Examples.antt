-- A cut on naturals: plus(succ(zero), zero) = succ(zero), which is proved in four nodes and in three.
use Rattle.std.specs.Prelude.{List, [], ◌∷◌, true, codes}
use Rattle.spec_core.specs.declared.records.Goal.{Goal}
use Rattle.spec_core.specs.declared.records.Spec.{Spec}
use Rattle.spec_core.specs.Naturals.{naturals, plus_term, succ_term, zero_term}
use Rattle.sample_specs.specs.SumOrder.{AboveInSums}
use Rattle.clause_core.specs.declared.reports.Report.{Report}
use Rattle.clause_core.specs.declared.steps.Step.{Step}
use Rattle.clause_core.specs.declared.steps.Step.TheVariants.{Trivial, Rule, Decompose}
use Rattle.clause_core.specs.ExampleClauses.{conclusion_side}
use Rattle.acceptance.specs.Accepting.{IsAccepted}
use Rattle.script_trim.specs.Trimmed.{proves, Closes, LeadsTo, Trims}

-- goal one : plus(succ(zero), zero) = succ(zero)
abbrev pub one_goal : Goal
one_goal = record {
  name = codes "one";
  vars = [];
  premises = [];
  conclusions =
      record { left = plus_term (succ_term zero_term) zero_term; right = succ_term zero_term } ∷ [];
}

abbrev pub with_one : Spec
with_one = record naturals { goals = one_goal ∷ [] }

-- rule c1.l 2, rule c1.l.1 1, decompose c1, trivial c1; and trivial c1 in the place of the last two
abbrev pub four_steps : List Step
four_steps =
    Rule (conclusion_side true []) 2 ∷ Rule (conclusion_side true (1 ∷ [])) 1 ∷ Decompose true 1
    ∷ Trivial 1 ∷ []

abbrev pub three_steps : List Step
three_steps =
    Rule (conclusion_side true []) 2 ∷ Rule (conclusion_side true (1 ∷ [])) 1 ∷ Trivial 1 ∷ []

abbrev pub report_by : List Step → Report
report_by steps = record { steps = 1000; claims = proves (codes "one") steps ∷ [] }

pub record WorkedExamples : Type 0 where
  pub accepted : IsAccepted AboveInSums with_one (report_by four_steps)
  -- `trivial c1` could close node 2, and takes node 3 out
  pub closes : Closes AboveInSums with_one (report_by four_steps) 0 2 (Trivial 1) three_steps
  pub accepted_cut : IsAccepted AboveInSums with_one (report_by three_steps)
  -- it is the first cut, and after it no node could be closed
  pub leads : LeadsTo AboveInSums with_one (report_by four_steps) (report_by three_steps)
  pub trims : Trims AboveInSums with_one (report_by four_steps) (report_by three_steps)

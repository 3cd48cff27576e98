-- What the definitions say of a small report.
use Rattle.std.specs.Prelude.{◌≡◌, ℕ, List, [], ◌∷◌, ◌++◌, true, false, codes}
use Rattle.term_core.specs.Tree.{Tree, var, app, none, some}
use Rattle.spec_core.specs.Sig.{Sig}
use Rattle.proof_script.specs.Standing.{StepStands}
use Rattle.spec_core.specs.Shapes.{tree_sig}
use Rattle.clause_core.specs.declared.reports.Budget.{Budget}
use Rattle.clause_core.specs.declared.reports.Outcome.TheVariants.{Proved, Refuted, Open}
use Rattle.clause_core.specs.declared.reports.Report.{Report}
use Rattle.clause_core.specs.declared.steps.Place.{Place}
use Rattle.clause_core.specs.declared.steps.Step.{Step}
use Rattle.clause_core.specs.declared.steps.Step.TheVariants.{Trivial, Cover, Rule, Hyp, Subsume}
use Rattle.proof_script.specs.Words.{line_text}
use Rattle.proof_script.specs.Steps.{step_line}
use Rattle.proof_script.specs.Claims.{report_text}

-- node(s, t), and leaf
abbrev pub node : Tree → Tree → Tree
node s t = app 2 (some s (some t none))

abbrev pub leaf : Tree
leaf = app 3 none

-- the second argument of the left side of conclusion 1
abbrev pub second_place : Place
second_place = record { conclusion = true; number = 1; left = true; path = 2 ∷ [] }

abbrev pub small_budget : Budget
small_budget =
    record { depth = 3; tried = 5; skipped = 0; cut = false; plain = 0; nodes = 0 }

abbrev pub small_report : Report
small_report = record {
  steps = 9;
  claims =
      record { goal = codes "a"; outcome = Proved (record { steps = Trivial 1 ∷ [] }) } ∷
      record { goal = codes "b"; outcome = Refuted 3 ((codes "x", leaf) ∷ []) } ∷
      record { goal = codes "c"; outcome = Open small_budget } ∷ [];
}

abbrev pub step_text : Step → List ℕ
step_text step = line_text tree_sig (step_line step)

pub record WorkedExamples : Type 0 where
  pub cover : step_text (Cover (record { 0 = 0 }) (leaf ∷ node (var 0) (var 1) ∷ []))
      ≡ codes "cover ?0 [leaf, node(_, _)]\n"
  pub hyp : step_text (Hyp 0 (var 1 ∷ leaf ∷ []) second_place false)
      ≡ codes "hyp 0 [?1, leaf] c1.l.2 r\n"
  pub rule : step_text (Rule second_place 7) ≡ codes "rule c1.l.2 7\n"
  pub subsume : step_text (Subsume 7 []) ≡ codes "subsume 7 []\n"
  pub report : report_text tree_sig small_report
      ≡ codes "spike-report 1\nsteps 9\nproved a nodes 1\ntrivial c1\n"
      ++ codes "refuted b index 3 with 1\nx = leaf\n"
      ++ codes "open c depth 3 tried 5 skipped 0 cut no plain 0 nodes 0\ndone\n"

-- no step that may appear has this line
abbrev pub IsNoStep : Sig → List ℕ → Type 0
IsNoStep sig text =
    (step : Step) → StepStands sig step → line_text sig (step_line step) ≡ text → ⊥

pub record RefusedSteps : Type 0 where
  -- a blank outside a pattern
  pub blank : (sig : Sig) → IsNoStep sig (codes "generalize _\n")
  -- equations count from 1
  pub nought : (sig : Sig) → IsNoStep sig (codes "trivial c0\n")

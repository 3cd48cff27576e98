-- The steps of routine blocks may appear in a report.
use Rattle.std.specs.Prelude.{ℕ, ◌<◌, ◌^◌, List, length}
use Rattle.std.specs.List.{AllByRecursion}
use Rattle.term_core.specs.Tree.{Tree}
use Rattle.spec_core.specs.declared.records.Goal.{Goal}
use Rattle.spec_core.specs.declared.records.Spec.{Spec}
use Rattle.spec_core.specs.Sig.{names_of}
use Rattle.spec_core.specs.WellSorted.{IsWellSorted, GoalIsSorted}
use Rattle.clause_core.specs.declared.steps.Step.{Step}
use Rattle.clause_core.specs.Limits.{IsWithin}
use Rattle.clause_core.specs.Tidied.{goal_clause}
use Rattle.proof_script.specs.Names.{IsReportName}
use Rattle.proof_script.specs.Standing.{StepStands}
use Rattle.routine_proof.specs.Routine.{Start, IsRoutine}

-- the name of each symbol and of each goal may appear in a report
pub record NamesStand (spec : Spec) : Type 0 where
  pub symbols : AllByRecursion IsReportName (names_of spec.sig)
  pub goals : AllByRecursion (λ (g : Goal). IsReportName g.name) spec.goals

-- if names may appear, the number of each rule is short and the goal's clause is within the
-- limits, each step of a routine block may appear
abbrev pub RoutineBlocksStand : (Tree → Tree → Type 0) → Type 0
RoutineBlocksStand above =
    (spec : Spec) (lemmas : List ℕ) (goal : Goal) (start : Start) (steps : List Step) →
    IsWellSorted spec → GoalIsSorted spec.sig goal → NamesStand spec →
    length spec.rules < 10 ^ 9 → IsWithin (goal_clause goal) →
    IsRoutine above spec lemmas (goal_clause goal) start steps →
    AllByRecursion (StepStands spec.sig) steps

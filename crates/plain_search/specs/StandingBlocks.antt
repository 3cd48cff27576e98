-- The steps of the block of a plain proof may appear in a report.
use Rattle.std.specs.Prelude.{ℕ, ◌<◌, ◌^◌, List, length}
use Rattle.std.specs.List.{AllByRecursion}
use Rattle.term_core.specs.Tree.{Tree}
use Rattle.spec_core.specs.declared.records.Goal.{Goal}
use Rattle.spec_core.specs.declared.records.Spec.{Spec}
use Rattle.spec_core.specs.Sig.{Sig, names_of}
use Rattle.spec_core.specs.WellSorted.{IsWellSorted, GoalIsSorted}
use Rattle.clause_core.specs.declared.steps.Step.{Step}
use Rattle.proof_script.specs.Names.{IsReportName}
use Rattle.proof_script.specs.Standing.{StepStands}
use Rattle.plain_search.specs.Blocks.{IsPlainBlock}

-- the name of each symbol may appear in a report
abbrev pub SymbolNamesStand : Sig → Type 0
SymbolNamesStand sig = AllByRecursion IsReportName (names_of sig)

-- if the names of the symbols may appear, and the number of each rule is short, so may each step of
-- a block
abbrev pub PlainBlocksStand : (Tree → Tree → Type 0) → Type 0
PlainBlocksStand above =
    (spec : Spec) (goal : Goal) (x : ℕ) (steps : List Step) → IsWellSorted spec →
    GoalIsSorted spec.sig goal → SymbolNamesStand spec.sig → length spec.rules < 10 ^ 9 →
    IsPlainBlock above spec goal x steps → AllByRecursion (StepStands spec.sig) steps

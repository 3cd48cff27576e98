-- Laws of the definitions.
use Rattle.std.specs.Prelude.{◌≡◌, ℕ, List, Some, slice_get}
use Rattle.term_core.specs.Tree.{Tree}
use Rattle.spec_core.specs.declared.records.Spec.{Spec}
use Rattle.spec_core.specs.declared.records.Goal.{Goal}
use Rattle.spec_core.specs.declared.records.Verdict.{Verdict}
use Rattle.spec_core.specs.WellSorted.{IsWellSorted, sorts_of}
use Rattle.spec_core.specs.Overlap.{NoOverlap}
use Rattle.spec_core.specs.Groups.{GroupsAreWhole}
use Rattle.spec_core.specs.Truth.{AreValuesOf}
use Rattle.spec_core.specs.Verdict.{IsVerdict}

-- two verdicts of a goal under the same values and within the same budget are the same
abbrev pub OneVerdict : Type 0
OneVerdict =
    (spec : Spec) (goal : Goal) (k : ℕ) (values : List Tree) (budget : ℕ) (p q : Verdict)
    → IsWellSorted spec → NoOverlap spec → GroupsAreWhole spec
    → slice_get spec.goals k ≡ Some goal → AreValuesOf spec (sorts_of goal.vars) values
    → IsVerdict spec values budget goal p → IsVerdict spec values budget goal q
    → p ≡ q

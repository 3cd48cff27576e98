-- What stands for a goal's first variables if those of the sort Bool all have values.
use Rattle.std.specs.Prelude.{◌≡◌, ◌≢◌, ◌⊎◌, ◌-◌, ℕ, suc, List, [], ◌∷◌, Option, None, Some, map}
use Rattle.term_core.specs.Tree.{Tree, var}
use Rattle.term_core.specs.declared.ids.SortId.{SortId}
use Rattle.spec_core.specs.declared.records.Spec.{Spec}
use Rattle.spec_core.specs.declared.records.Goal.{Goal}
use Rattle.spec_core.specs.declared.records.Verdict.{Verdict}
use Rattle.spec_core.specs.Sorts.{IsValue}
use Rattle.spec_core.specs.WellSorted.{sorts_of}
use Rattle.spec_core.specs.Overlap.{NoOverlap}
use Rattle.spec_core.specs.Groups.{GroupsAreWhole}
use Rattle.spec_core.specs.Truth.{AreValuesOf}
use Rattle.value_bank.specs.Cells.{Cell}
use Rattle.value_bank.specs.declared.bank.ValueId.{ValueId}
use Rattle.bank_machine.specs.Runs.{StandAt}
use Rattle.open_evaluation.specs.Shifted.{closed}
use Rattle.open_evaluation.specs.WalkLaws.{AreInstances}
use Rattle.open_evaluation.specs.OpenVerdict.{IsOpenVerdict}
use Rattle.ground_eval.specs.Opened.{Partial}
use Rattle.ground_eval.specs.Sides.{IsDecided}

module _ (spec : Spec) where
  -- a value of the sort; or, if that isn't Bool, the variable with this number, which stands for itself
  abbrev pub IsEntry : ℕ → SortId → Tree → Type 0
  IsEntry k s x = IsValue spec.sig s x ⊎ ((x ≡ var k) × (s.0 ≢ 0))

  -- an entry for each of the first sorts, which are numbered from k on
  abbrev pub AreEntries : ℕ → List SortId → List Tree → Type 0
  AreEntries k ctx [] = Unit {0}
  AreEntries k [] (x ∷ xs) = ⊥
  AreEntries k (s ∷ ctx) (x ∷ xs) = IsEntry k s x × AreEntries (suc k) ctx xs

  module _ (goal : Goal) (budget : ℕ) (entries : List Tree) where
    -- all values that are instances of the entries have the verdict, and the open walk has no other one
    abbrev pub HaveOne : Verdict → Type 0
    HaveOne verdict =
        ((values : List Tree) → AreValuesOf spec (sorts_of goal.vars) values
        → AreInstances values entries values → IsDecided spec values budget goal verdict)
        × ((r : Verdict) → NoOverlap spec → GroupsAreWhole spec
        → IsOpenVerdict spec entries budget goal r → r ≡ verdict)

    -- the one verdict under the entries; or the open walk has none
    abbrev pub SayOfAll : Option Verdict → Type 0
    SayOfAll (Some verdict) = HaveOne verdict
    SayOfAll None = (r : Verdict) → NoOverlap spec → GroupsAreWhole spec
        → IsOpenVerdict spec entries budget goal r → ⊥

-- the entries are at these places, with constants for the variables
pub record AreEntriesAt (p : Partial) (cells : List Cell) (ids : List ValueId)
    (entries : List Tree) : Type 0 where
  pub fit : AreEntries p.spec 0 (sorts_of p.goal.vars) entries
  pub stand : StandAt cells ids (map
      (closed p.spec.sig.constructors (p.extended.sig.constructors - p.spec.sig.constructors))
      entries)

-- A goal whose variables have constants, so that it is evaluated even if some of them have no value.
use Rattle.std.specs.Prelude.{◌≡◌, ◌≢◌, ◌<◌, ◌≤◌, ℕ, List, Some, length, slice_get, take, ◌++◌}
use Rattle.std.specs.List.{AllByRecursion}
use Rattle.term_core.specs.Tree.{Tree}
use Rattle.term_core.specs.declared.ids.SortId.{SortId}
use Rattle.spec_core.specs.declared.records.Spec.{Spec}
use Rattle.spec_core.specs.declared.records.Goal.{Goal}
use Rattle.spec_core.specs.declared.records.Verdict.{Verdict}
use Rattle.spec_core.specs.Sig.{IsSort}
use Rattle.spec_core.specs.WellSorted.{IsWellSorted, sorts_of}
use Rattle.spec_core.specs.Overlap.{NoOverlap}
use Rattle.spec_core.specs.Groups.{GroupsAreWhole}
use Rattle.spec_core.specs.Truth.{AreValuesOf}
use Rattle.value_bank.specs.Cells.{Cell}
use Rattle.open_evaluation.specs.Shifted.{IsExtended, shifted_goal}
use Rattle.open_evaluation.specs.OpenVerdict.{opened, IsOpenVerdict}
use Rattle.ground_eval.specs.Constants.{AreMarks}
use Rattle.ground_eval.specs.Sides.{IsDecided}
use Rattle.ground_eval.specs.declared.marks.ConstantMarks.{ConstantMarks}
use Rattle.ground_eval.specs.declared.parts.Part.{Part}
use Rattle.ground_eval.specs.declared.parts.Part.TheVariants.{All, Looks}

-- each variable of another sort than Bool has a constant of its sort, under its number
abbrev pub HaveConstants : List SortId → List SortId → Type 0
HaveConstants ctx sorts =
    (n : ℕ) (s : SortId) → slice_get ctx n ≡ Some s → s.0 ≢ 0 → slice_get sorts n ≡ Some s

-- the specification has constants of these sorts
pub record Extends (old new : Spec) (sorts : List SortId) : Type 0 where
  pub in_range : AllByRecursion (IsSort old.sig) sorts
  pub more : IsExtended old new sorts
  pub fine : IsWellSorted new

-- the specification has constants for the goal's variables, and the goal is written with its numbers
pub record IsOpened (spec : Spec) (goal : Goal) (extended : Spec) (shifted : Goal) : Type 0 where
  pub sorts : List SortId
  pub constants : HaveConstants (sorts_of goal.vars) sorts
  pub extends : Extends spec extended sorts
  pub same : shifted ≡ shifted_goal spec.sig.constructors (length sorts) goal

-- a goal of a specification, and the specification that has constants for its variables
pub record Partial : Type 0 where
  pub spec : Spec
  pub goal : Goal
  pub extended : Spec

abbrev pub partial : Spec → Goal → Spec → Partial
partial spec goal extended = record { spec = spec; goal = goal; extended = extended }

module _ (spec : Spec) (goal : Goal) (fixed : List Tree) where
  -- the values are those of the goal's first variables
  abbrev pub AreFirstValues : Type 0
  AreFirstValues = AreValuesOf spec (take (length fixed) (sorts_of goal.vars)) fixed

  -- each list of values that goes on with these has the verdict
  abbrev pub AllHaveVerdict : ℕ → Verdict → Type 0
  AllHaveVerdict budget verdict =
      (rest : List Tree) → AreValuesOf spec (sorts_of goal.vars) (fixed ++ rest)
      → IsDecided spec (fixed ++ rest) budget goal verdict

  -- if left sides don't overlap and groups are whole, the open walk doesn't end
  abbrev pub IsOpenYet : ℕ → Type 0
  IsOpenYet budget =
      NoOverlap spec → GroupsAreWhole spec
      → (r : Verdict) → IsOpenVerdict spec (opened fixed (length goal.vars)) budget goal r → ⊥

  -- the verdict of all values that go on with these; or a variable that has no value, if the open
  -- walk doesn't end
  abbrev pub IsPart : ℕ → Part → Type 0
  IsPart budget (All verdict) = AllHaveVerdict budget verdict
  IsPart budget (Looks x) =
      (length fixed ≤ x.0) × (x.0 < length goal.vars) × IsOpenYet budget

-- the marks say of places of the bank whether a constant for a variable occurs in their terms
abbrev pub AreMarksOf : Partial → List Cell → ConstantMarks → Type 0
AreMarksOf goal cells marks =
    AreMarks goal.spec.sig.constructors goal.extended.sig.constructors cells marks.marks.items

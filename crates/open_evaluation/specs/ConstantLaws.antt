-- What the new numbers and the constants keep.
use Rattle.std.specs.Prelude.{◌≡◌, ◌<◌, ℕ, List, [], map, length, Some, slice_get}
use Rattle.std.specs.List.{AllByRecursion}
use Rattle.term_core.specs.Tree.{Tree, instance}
use Rattle.term_core.specs.Variables.{Occurs}
use Rattle.term_core.specs.declared.ids.SortId.{SortId}
use Rattle.spec_core.specs.declared.records.Goal.{Goal}
use Rattle.spec_core.specs.declared.records.Spec.{Spec}
use Rattle.spec_core.specs.Sig.{IsSort}
use Rattle.spec_core.specs.Sorts.{Sorted, IsValue}
use Rattle.spec_core.specs.WellSorted.{GoalIsSorted, IsWellSorted}
use Rattle.spec_core.specs.Overlap.{NoOverlap}
use Rattle.spec_core.specs.Groups.{GroupsAreWhole}
use Rattle.open_evaluation.specs.Shifted.{shifted, constant, closed, shifted_goal, IsExtended}

-- two terms that are one term with the new numbers are one term
abbrev pub ShiftedApart : Type 0
ShiftedApart = (c u : ℕ) (s t : Tree) → shifted c u s ≡ shifted c u t → s ≡ t

-- an instance with the new numbers is the instance by the entries with the new numbers
abbrev pub InstancesAreShifted : Type 0
InstancesAreShifted =
    (c u : ℕ) (xs : List Tree) (t : Tree)
    → instance (map (shifted c u) xs) (shifted c u t) ≡ shifted c u (instance xs t)

-- with a constant for each variable too, if each variable of the term has an entry
abbrev pub InstancesAreClosed : Type 0
InstancesAreClosed =
    (c u : ℕ) (xs : List Tree) (t : Tree) → ((n : ℕ) → Occurs n t → n < length xs) →
    instance (map (closed c u) xs) (shifted c u t) ≡ closed c u (instance xs t)

-- it holds of each well sorted specification and what it is with constants
abbrev pub OfExtended : (Spec → Spec → List SortId → Type 0) → Type 0
OfExtended P = (old new : Spec) (sorts : List SortId) → IsExtended old new sorts → IsWellSorted old
    → P old new sorts

module _ (old new : Spec) (sorts : List SortId) where
  abbrev c : ℕ
  c = old.sig.constructors

  abbrev u : ℕ
  u = length sorts

  -- a term has its sort with the new numbers
  abbrev pub SortsAreKept : Type 0
  SortsAreKept = (ctx : List SortId) (t : Tree) (s : SortId) → Sorted old.sig ctx t s
      → Sorted new.sig ctx (shifted c u t) s

  -- and with a constant for each variable, if the variables have the sorts of the constants
  abbrev pub ClosedAreSorted : Type 0
  ClosedAreSorted =
      (t : Tree) (s : SortId) → Sorted old.sig sorts t s → Sorted new.sig [] (closed c u t) s

  -- a value is a value of its sort, and is as it was
  abbrev pub ValuesAreKept : Type 0
  ValuesAreKept = (s : SortId) (v : Tree) → IsValue old.sig s v → IsValue new.sig s v
      × (shifted c u v ≡ v) × (closed c u v ≡ v)

  -- a constant is a value of its sort
  abbrev pub ConstantsAreValues : Type 0
  ConstantsAreValues =
      (n : ℕ) (s : SortId) → slice_get sorts n ≡ Some s → IsValue new.sig s (constant c u n)

  -- a well sorted goal is well sorted with the new numbers
  abbrev pub GoalsAreKept : Type 0
  GoalsAreKept =
      (goal : Goal) → GoalIsSorted old.sig goal → GoalIsSorted new.sig (shifted_goal c u goal)

  -- left sides don't overlap if they didn't
  abbrev pub NoOverlapIsKept : Type 0
  NoOverlapIsKept = AllByRecursion (IsSort old.sig) sorts → NoOverlap old → NoOverlap new

  -- groups are whole if they were
  abbrev pub WholeGroupsAreKept : Type 0
  WholeGroupsAreKept = GroupsAreWhole old → GroupsAreWhole new

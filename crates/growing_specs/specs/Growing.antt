-- Specifications with other goals, and the goals that may be added.
use Rattle.std.specs.Prelude.{◌≡◌, ℕ, ◌+◌, ◌<◌, ◌^◌, List, [], ◌∷◌, ◌++◌, Bool, true, false, Some, length, slice_get}
use Rattle.std.specs.List.{AllByRecursion}
use Rattle.term_core.specs.declared.ids.SortId.{SortId}
use Rattle.spec_core.specs.Sig.{Sig}
use Rattle.spec_core.specs.Sorts.{Sorted}
use Rattle.spec_core.specs.WellSorted.{GoalIsSorted}
use Rattle.spec_core.specs.declared.records.Equation.{Equation}
use Rattle.spec_core.specs.declared.records.Goal.{Goal}
use Rattle.spec_core.specs.declared.records.Spec.{Spec}

-- the same symbols, order and rules with these goals
abbrev pub with_goals : Spec → List Goal → Spec
with_goals spec goals =
    record { sig = spec.sig; order = spec.order; rules = spec.rules; goals = goals }

-- the goals, and after them this one if it was added
abbrev pub goals_after : Bool → List Goal → Goal → List Goal
goals_after true goals goal = goals ++ goal ∷ []
goals_after false goals goal = goals

-- no goal has this goal's name
abbrev pub IsNew : Spec → Goal → Type 0
IsNew spec goal = (k : ℕ) (other : Goal) → slice_get spec.goals k ≡ Some other → other.name ≡ goal.name → ⊥

-- the goal may be one more of the specification's
pub record MayBeAdded (spec : Spec) (goal : Goal) : Type 0 where
  pub sorted : GoalIsSorted spec.sig goal
  pub new : IsNew spec goal
  pub few : length spec.goals + 1 < 2 ^ 32

-- both sides of each equation have one sort
abbrev pub AreSorted : Sig → List SortId → List Equation → Type 0
AreSorted sig ctx es =
    AllByRecursion (λ (e : Equation). (s : SortId) × Sorted sig ctx e.left s × Sorted sig ctx e.right s) es

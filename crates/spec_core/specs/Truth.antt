-- Truth of goals.
use Rattle.std.specs.Prelude.{◌≢◌, ℕ, ◌⊎◌, List, [], ◌∷◌}
use Rattle.term_core.specs.Tree.{Tree, instance}
use Rattle.term_core.specs.declared.ids.SortId.{SortId}
use Rattle.spec_core.specs.declared.records.Equation.{Equation}
use Rattle.spec_core.specs.declared.records.Goal.{Goal}
use Rattle.spec_core.specs.declared.records.Spec.{Spec}
use Rattle.spec_core.specs.Sorts.{IsValue}
use Rattle.spec_core.specs.Gives.{Gives}
use Rattle.spec_core.specs.WellSorted.{sorts_of}

module _ (spec : Spec) (values : List Tree) where
  -- both sides give one value
  abbrev pub EquationHolds : Equation → Type 0
  EquationHolds e = (v : Tree) × (n : ℕ) × (m : ℕ) × Gives spec (instance values e.left) v n
      × Gives spec (instance values e.right) v m

  -- the sides give two different values
  abbrev pub EquationBroken : Equation → Type 0
  EquationBroken e = (v : Tree) × (w : Tree) × (n : ℕ) × (m : ℕ) × (v ≢ w)
      × Gives spec (instance values e.left) v n × Gives spec (instance values e.right) w m

  -- each equation holds
  abbrev pub AllHold : List Equation → Type 0
  AllHold [] = Unit {0}
  AllHold (e ∷ es) = EquationHolds e × AllHold es

  -- some equation holds
  abbrev pub SomeHolds : List Equation → Type 0
  SomeHolds [] = ⊥
  SomeHolds (e ∷ es) = EquationHolds e ⊎ SomeHolds es

  -- each equation is broken
  abbrev pub AllBroken : List Equation → Type 0
  AllBroken [] = Unit {0}
  AllBroken (e ∷ es) = EquationBroken e × AllBroken es

  -- if each premise holds, some conclusion holds
  abbrev pub GoalHolds : Goal → Type 0
  GoalHolds goal = AllHold goal.premises → SomeHolds goal.conclusions

  -- each premise holds, and each conclusion is broken
  abbrev pub GoalFails : Goal → Type 0
  GoalFails goal = AllHold goal.premises × AllBroken goal.conclusions

-- one value for each variable, of its sort
abbrev pub AreValuesOf : Spec → List SortId → List Tree → Type 0
AreValuesOf spec [] [] = Unit {0}
AreValuesOf spec (s ∷ ss) (v ∷ vs) = IsValue spec.sig s v × AreValuesOf spec ss vs
AreValuesOf spec [] (v ∷ vs) = ⊥
AreValuesOf spec (s ∷ ss) [] = ⊥

-- the goal holds under all values of its variables
abbrev pub GoalIsTrue : Spec → Goal → Type 0
GoalIsTrue spec goal =
    (values : List Tree) → AreValuesOf spec (sorts_of goal.vars) values → GoalHolds spec values goal

-- A goal whose sides are compiled, and values at places of a bank.
use Rattle.std.specs.Prelude.{◌≡◌, ℕ, ◌+◌, List, [], ◌∷◌, Some, length, slice_get}
use Rattle.std.specs.List.{AllByRecursion}
use Rattle.term_core.specs.Tree.{Tree}
use Rattle.spec_core.specs.declared.records.Equation.{Equation}
use Rattle.spec_core.specs.declared.records.Goal.{Goal}
use Rattle.spec_core.specs.Sorts.{IsBuilt}
use Rattle.value_bank.specs.Cells.{Cell}
use Rattle.value_bank.specs.declared.bank.ValueId.{ValueId}
use Rattle.rule_code.specs.Lengths.{term_length}
use Rattle.rule_code.specs.Programs.{Program, IsSide}
use Rattle.bank_machine.specs.Runs.{StandAt}
use Rattle.ground_eval.specs.declared.comparing.SidePair.{SidePair}
use Rattle.ground_eval.specs.Sides.{HasOneSort}

abbrev pub pair_of : ℕ → ℕ → SidePair
pair_of left right = record { left = left; right = right }

-- the code of an equation's sides begins at these places
pub record HasCode (p : Program) (variables : ℕ) (e : Equation) (pair : SidePair) : Type 0 where
  pub left : IsSide p pair.left variables e.left
  pub right : IsSide p pair.right variables e.right

-- the same of each equation
pub record HaveCode (p : Program) (variables : ℕ) (es : List Equation) (pairs : List SidePair) :
    Type 0 where
  pub count : length pairs ≡ length es
  pub each : (k : ℕ) (e : Equation) (pair : SidePair) → slice_get es k ≡ Some e
      → slice_get pairs k ≡ Some pair → HasCode p variables e pair

-- how many instructions the code of the sides of equations has at most
abbrev pub sides_length : List Equation → ℕ
sides_length [] = 0
sides_length (e ∷ es) = term_length e.left + term_length e.right + sides_length es

-- the same of the sides of a goal
abbrev pub goal_length : Goal → ℕ
goal_length g = sides_length g.premises + sides_length g.conclusions

pub record IsPrepared (p : Program) (goal : Goal) (premises conclusions : List SidePair) : Type 0
  where
    pub of_premises : HaveCode p (length goal.vars) goal.premises premises
    pub of_conclusions : HaveCode p (length goal.vars) goal.conclusions conclusions

-- these values are at the places, and under them both sides have one sort
pub record CanCompare (p : Program) (cells : List Cell) (pair : SidePair) (ids : List ValueId)
    (e : Equation) (values : List Tree) : Type 0 where
  pub code : HasCode p (length ids) e pair
  pub stand : StandAt cells ids values
  pub built : AllByRecursion (λ (v : Tree). IsBuilt p.spec.sig v) values
  pub sorted : HasOneSort p.spec values e

pub record CanCompareAll (p : Program) (cells : List Cell) (pairs : List SidePair)
    (ids : List ValueId) (es : List Equation) (values : List Tree) : Type 0 where
  pub code : HaveCode p (length ids) es pairs
  pub stand : StandAt cells ids values
  pub built : AllByRecursion (λ (v : Tree). IsBuilt p.spec.sig v) values
  pub sorted : AllByRecursion (HasOneSort p.spec values) es

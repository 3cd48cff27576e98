-- What a walk over the sides of a goal answers when some variables have no value.
use Rattle.std.specs.Prelude.{◌≡◌, ◌≤◌, ℕ, ◌+◌, List, Some, Option, None, length, map, slice_get}
use Rattle.std.specs.List.{AllByRecursion}
use Rattle.term_core.specs.Tree.{Tree, instance}
use Rattle.term_core.specs.declared.ids.SortId.{SortId}
use Rattle.spec_core.specs.declared.records.Spec.{Spec}
use Rattle.spec_core.specs.declared.records.Equation.{Equation}
use Rattle.spec_core.specs.declared.records.Goal.{Goal}
use Rattle.spec_core.specs.declared.records.Verdict.{Verdict}
use Rattle.spec_core.specs.declared.records.Verdict.TheVariants.{Holds}
use Rattle.spec_core.specs.WellSorted.{IsWellSorted}
use Rattle.spec_core.specs.Overlap.{NoOverlap}
use Rattle.spec_core.specs.Groups.{GroupsAreWhole}
use Rattle.value_bank.specs.Cells.{Cell}
use Rattle.value_bank.specs.declared.bank.ValueId.{ValueId}
use Rattle.rule_code.specs.Lengths.{rules_length}
use Rattle.rule_code.specs.Programs.{Program}
use Rattle.open_evaluation.specs.Shifted.{shifted, closed, shifted_equation}
use Rattle.open_evaluation.specs.OpenGives.{VariablesAreBelow}
use Rattle.open_evaluation.specs.OpenVerdict.{OpenSame, OpenDiffer, OpenConclusionsSay, OpenPremisesSay, IsOpenVerdict}
use Rattle.ground_eval.specs.declared.answers.OpenSides.{OpenSides}
use Rattle.ground_eval.specs.declared.answers.OpenSides.TheVariants.{Same, Differ, Unknown}
use Rattle.ground_eval.specs.declared.comparing.SidePair.{SidePair}
use Rattle.ground_eval.specs.declared.marks.Constants.{Constants}
use Rattle.ground_eval.specs.Opened.{Extends, IsOpened}
use Rattle.ground_eval.specs.Prepared.{CanCompare, IsPrepared, goal_length}

-- a specification, sorts of constants, and what stands for a goal's variables: values and variables
pub record Setting : Type 0 where
  pub spec : Spec
  pub sorts : List SortId
  pub values : List Tree

module _ (s : Setting) where
  abbrev pub with_constants : List Tree
  with_constants = map (closed s.spec.sig.constructors (length s.sorts)) s.values

  abbrev pub shifted_here : Equation → Equation
  shifted_here e = shifted_equation s.spec.sig.constructors (length s.sorts) e

  -- the side with constants is the side's instance with constants
  pub record IsClosedSide (t : Tree) : Type 0 where
    pub is : instance with_constants (shifted s.spec.sig.constructors (length s.sorts) t)
        ≡ closed s.spec.sig.constructors (length s.sorts) (instance s.values t)
    pub below : VariablesAreBelow (length s.sorts) (instance s.values t)

  -- the program's specification is the setting's with constants, whose numbers these are
  pub record IsSet (p : Program) (constants : Constants) : Type 0 where
    pub fine : IsWellSorted s.spec
    pub extends : Extends s.spec p.spec s.sorts
    pub first : constants.from ≡ s.spec.sig.constructors
    pub past : constants.to ≡ s.spec.sig.constructors + length s.sorts

  -- the equation's sides can be compared, with constants
  pub record CanOpen (p : Program) (cells : List Cell) (pair : SidePair) (ids : List ValueId)
      (e : Equation) : Type 0 where
    pub compared : CanCompare p cells pair ids (shifted_here e) with_constants
    pub left : IsClosedSide e.left
    pub right : IsClosedSide e.right

  pub record CanOpenAll (p : Program) (cells : List Cell) (pairs : List SidePair)
      (ids : List ValueId) (es : List Equation) : Type 0 where
    pub count : length pairs ≡ length es
    pub each : (k : ℕ) (e : Equation) (pair : SidePair) → slice_get es k ≡ Some e
        → slice_get pairs k ≡ Some pair → CanOpen p cells pair ids e

  -- if left sides don't overlap and groups are whole, it isn't so
  abbrev pub Isnt : Type 0 → Type 0
  Isnt claim = NoOverlap s.spec → GroupsAreWhole s.spec → claim → ⊥

  module _ (budget : ℕ) where
    abbrev pub IsSame : Equation → Type 0
    IsSame e = OpenSame s.spec s.values budget e

    abbrev pub IsDifferent : Equation → Type 0
    IsDifferent e = OpenDiffer s.spec s.values budget e

    -- the sides are the same, or different, and not the other; or neither
    abbrev pub SidesOpen : Equation → OpenSides → Type 0
    SidesOpen e Same = IsSame e × Isnt (IsDifferent e)
    SidesOpen e Differ = IsDifferent e × Isnt (IsSame e)
    SidesOpen e Unknown = Isnt (IsSame e) × Isnt (IsDifferent e)

    -- the sides of each premise are the same; or those of the first other one differ, or are neither
    abbrev pub PremisesOpen : List Equation → OpenSides → Type 0
    PremisesOpen es Same = AllByRecursion (λ (e : Equation). SidesOpen e Same) es
    PremisesOpen es Differ =
        (cs : List Equation) → OpenPremisesSay s.spec s.values budget es cs Holds
    PremisesOpen es Unknown =
        (cs : List Equation) (r : Verdict) → Isnt (OpenPremisesSay s.spec s.values budget es cs r)

    -- the verdict of the conclusions, or there is none
    abbrev pub ConclusionsOpen : List Equation → Option Verdict → Type 0
    ConclusionsOpen es (Some r) = OpenConclusionsSay s.spec s.values budget es r
    ConclusionsOpen es None = (r : Verdict) → Isnt (OpenConclusionsSay s.spec s.values budget es r)

    -- the verdict of the open walk, or there is none
    abbrev pub GoalOpens : Goal → Option Verdict → Type 0
    GoalOpens goal (Some r) = IsOpenVerdict s.spec s.values budget goal r
    GoalOpens goal None = (r : Verdict) → Isnt (IsOpenVerdict s.spec s.values budget goal r)

-- what is compiled for a goal: code of its sides with constants, whose numbers these are
pub record IsPartial (spec : Spec) (goal : Goal) (p : Program) (shifted : Goal)
    (constants : Constants) (premises conclusions : List SidePair) : Type 0 where
  pub opened : IsOpened spec goal p.spec shifted
  pub prepared : IsPrepared p shifted premises conclusions
  pub first : constants.from ≡ spec.sig.constructors
  pub past : constants.to ≡ p.spec.sig.constructors
  pub short : length p.code ≤ rules_length p.spec.rules + goal_length shifted

-- What a walk over the sides of a goal answers.
use Rattle.std.specs.Prelude.{ℕ, List, []}
use Rattle.std.specs.List.{AllByRecursion}
use Rattle.term_core.specs.Tree.{Tree, instance}
use Rattle.term_core.specs.declared.ids.SortId.{SortId}
use Rattle.spec_core.specs.declared.records.Spec.{Spec}
use Rattle.spec_core.specs.declared.records.Equation.{Equation}
use Rattle.spec_core.specs.declared.records.Goal.{Goal}
use Rattle.spec_core.specs.declared.records.Verdict.{Verdict}
use Rattle.spec_core.specs.declared.records.Verdict.TheVariants.{Holds, Fails, Spent}
use Rattle.spec_core.specs.Sorts.{Sorted}
use Rattle.spec_core.specs.Overlap.{NoOverlap}
use Rattle.spec_core.specs.Groups.{GroupsAreWhole}
use Rattle.spec_core.specs.Truth.{GoalFails}
use Rattle.spec_core.specs.Verdict.{SidesSame, SidesDiffer, SidesSpent, PremisesSay, ConclusionsSay, IsVerdict}
use Rattle.ground_eval.specs.declared.answers.Sides.{Sides}
use Rattle.ground_eval.specs.declared.answers.Sides.TheVariants.{Same, Differ, Spent as SidesAreSpent}

module _ (spec : Spec) (values : List Tree) where
  -- both sides have one sort under the values
  abbrev pub HasOneSort : Equation → Type 0
  HasOneSort e =
      (s : SortId) × Sorted spec.sig [] (instance values e.left) s
      × Sorted spec.sig [] (instance values e.right) s

  module _ (budget : ℕ) where
    -- what the sides of one equation give
    abbrev pub SidesAre : Equation → Sides → Type 0
    SidesAre e Same = SidesSame spec values budget e
    SidesAre e Differ = SidesDiffer spec values budget e
    SidesAre e SidesAreSpent =
        NoOverlap spec → GroupsAreWhole spec → SidesSpent spec values budget e

    -- the sides of each premise are the same; or those of the first other premise differ, or are spent
    abbrev pub PremisesAre : List Equation → Sides → Type 0
    PremisesAre es Same = AllByRecursion (SidesSame spec values budget) es
    PremisesAre es Differ = (cs : List Equation) → PremisesSay spec values budget es cs Holds
    PremisesAre es SidesAreSpent =
        NoOverlap spec → GroupsAreWhole spec
        → (cs : List Equation) → PremisesSay spec values budget es cs Spent

    -- the sides of each conclusion differ; or those of the first other conclusion are the same, or are spent
    abbrev pub ConclusionsAre : List Equation → Verdict → Type 0
    ConclusionsAre es Fails = AllByRecursion (SidesDiffer spec values budget) es
    ConclusionsAre es Holds = ConclusionsSay spec values budget es Holds
    ConclusionsAre es Spent =
        NoOverlap spec → GroupsAreWhole spec → ConclusionsSay spec values budget es Spent

    -- the goal's verdict, which for Spent has premises, and the goal fails if the verdict is Fails
    abbrev pub IsDecided : Goal → Verdict → Type 0
    IsDecided goal Fails = IsVerdict spec values budget goal Fails × GoalFails spec values goal
    IsDecided goal Holds = IsVerdict spec values budget goal Holds
    IsDecided goal Spent =
        NoOverlap spec → GroupsAreWhole spec → IsVerdict spec values budget goal Spent

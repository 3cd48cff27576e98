-- What a look at some of the rows answers.
use Rattle.std.specs.Prelude.{◌≡◌, ℕ, ◌+◌, ◌<◌, ◌≤◌, List, [], ◌++◌, true, false, Some, length, slice_get}
use Rattle.std.specs.List.{AllByRecursion}
use Rattle.term_core.specs.Tree.{Tree}
use Rattle.spec_core.specs.declared.records.Spec.{Spec}
use Rattle.spec_core.specs.declared.records.Goal.{Goal}
use Rattle.spec_core.specs.declared.records.Verdict.TheVariants.{Fails}
use Rattle.spec_core.specs.WellSorted.{sorts_of}
use Rattle.spec_core.specs.Overlap.{NoOverlap}
use Rattle.spec_core.specs.Groups.{GroupsAreWhole}
use Rattle.spec_core.specs.Truth.{AreValuesOf, GoalFails}
use Rattle.spec_core.specs.Verdict.{IsVerdict}
use Rattle.refuter.specs.Finds.{SpentRows}
use Rattle.refuter.specs.declared.answers.Search.{Search}
use Rattle.refuter.specs.declared.answers.Search.TheVariants.{Found as IsFound, NotFound}
use Rattle.refuter.specs.declared.parts.Look.{Look}
use Rattle.refuter.specs.declared.parts.Look.TheVariants.{Whole, Cut, Found}
use Rattle.refuter.specs.declared.parts.Tally.{Tally}

-- the counts are of what was tried so far
abbrev pub IsTally : ℕ → Tally → Type 0
IsTally tries tally = (tally.skipped ≤ tally.tried) × (tally.tried ≤ tries)

-- the answer of a search by the look at the whole list
abbrev pub IsAnswerOf : Look → Tally → Search → Type 0
IsAnswerOf Whole tally search = search ≡ NotFound tally.tried tally.skipped false
IsAnswerOf Cut tally search = search ≡ NotFound tally.tried tally.skipped true
IsAnswerOf (Found row) tally search = search ≡ IsFound tally.tried row

module _ (spec : Spec) (goal : Goal) (budget : ℕ) where
  -- none of the rows has the verdict Fails, and this many have the verdict Spent
  abbrev pub Passes : List (List Tree) → ℕ → Type 0
  Passes rows spent =
      NoOverlap spec → GroupsAreWhole spec
      → AllByRecursion (λ row. IsVerdict spec row budget goal Fails → ⊥) rows
      × SpentRows spec goal budget rows spent

  -- no row is left; or the tries are used up and some row is left; or the first that is left fails
  abbrev pub Ends : ℕ → ℕ → List (List Tree) → Look → Type 0
  Ends tries tried left Whole = left ≡ []
  Ends tries tried left Cut = (tried ≡ tries) × (0 < length left)
  Ends tries tried left (Found row) =
      (tried < tries) × (slice_get left 0 ≡ Some row) × IsVerdict spec row budget goal Fails
      × AreValuesOf spec (sorts_of goal.vars) row × GoalFails spec row goal

  -- the first of the rows were passed over and counted, and the answer is about those that are left
  pub record LooksOver (tries : ℕ) (rows : List (List Tree)) (old new : Tally) (look : Look) : Type
      0 where
    pub passed : List (List Tree)
    pub left : List (List Tree)
    pub spent : ℕ
    pub parted : rows ≡ passed ++ left
    pub tried : new.tried ≡ old.tried + length passed
    pub skipped : new.skipped ≡ old.skipped + spent
    pub few : spent ≤ length passed
    pub within : new.tried ≤ tries
    pub passes : Passes passed spent
    pub ends : Ends tries new.tried left look

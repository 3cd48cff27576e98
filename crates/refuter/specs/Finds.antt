-- What a search over the first members of a list of substitutions answers.
use Rattle.std.specs.Prelude.{◌≡◌, ℕ, ◌+◌, ◌<◌, min, ◌⊎◌, List, [], ◌∷◌, Some, length, slice_get, take, nat_lt}
use Rattle.term_core.specs.Tree.{Tree}
use Rattle.spec_core.specs.declared.records.Spec.{Spec}
use Rattle.spec_core.specs.declared.records.Goal.{Goal}
use Rattle.spec_core.specs.declared.records.Verdict.TheVariants.{Fails, Spent}
use Rattle.spec_core.specs.WellSorted.{sorts_of}
use Rattle.spec_core.specs.Truth.{AreValuesOf, GoalFails}
use Rattle.spec_core.specs.Verdict.{IsVerdict}
use Rattle.refuter.specs.declared.answers.Search.{Search}
use Rattle.refuter.specs.declared.answers.Search.TheVariants.{Found, NotFound}

module _ (spec : Spec) (goal : Goal) (budget : ℕ) where
  -- none of the first rows has the verdict Fails
  abbrev pub NoneFails : ℕ → List (List Tree) → Type 0
  NoneFails count rows =
      (k : ℕ) (row : List Tree) → k < count → slice_get rows k ≡ Some row
      → IsVerdict spec row budget goal Fails → ⊥

  -- this many of the rows have the verdict Spent
  abbrev pub SpentRows : List (List Tree) → ℕ → Type 0
  SpentRows [] n = n ≡ 0
  SpentRows (row ∷ rows) n =
      (IsVerdict spec row budget goal Spent × ((m : ℕ) × (n ≡ m + 1) × SpentRows rows m))
      ⊎ ((IsVerdict spec row budget goal Spent → ⊥) × SpentRows rows n)

  -- the first row among the first `tries` that has the verdict Fails; or that none has it, how many
  -- rows were looked at, how many of these have the verdict Spent, and whether there are more
  abbrev pub Finds : ℕ → List (List Tree) → Search → Type 0
  Finds tries rows (Found index row) =
      (index < tries) × (slice_get rows index ≡ Some row)
      × IsVerdict spec row budget goal Fails × NoneFails index rows
  Finds tries rows (NotFound tried skipped cut) =
      (tried ≡ min tries (length rows)) × (cut ≡ nat_lt tries (length rows))
      × NoneFails tried rows × SpentRows (take tried rows) skipped

-- what is found is one of the first `tries` rows, with values for the goal's variables under which
-- the goal is false
abbrev pub IsFalse : Spec → Goal → ℕ → List (List Tree) → Search → Type 0
IsFalse spec goal tries rows (Found index row) =
    (index < tries) × (slice_get rows index ≡ Some row)
    × AreValuesOf spec (sorts_of goal.vars) row × GoalFails spec row goal
IsFalse spec goal tries rows (NotFound tried skipped cut) = Unit {0}

-- What a walk over the substitutions of a goal builds on, and what its looks answer.
use Rattle.std.specs.Prelude.{◌≡◌, ℕ, ◌*◌, ◌<◌, List, Some, length, slice_get}
use Rattle.term_core.specs.Tree.{Tree, trees_of}
use Rattle.term_core.specs.declared.ids.SortId.{SortId}
use Rattle.spec_core.specs.declared.records.Goal.{Goal}
use Rattle.spec_core.specs.declared.records.Spec.{Spec}
use Rattle.spec_core.specs.declared.records.Verdict.{Verdict}
use Rattle.spec_core.specs.Sig.{Sig}
use Rattle.spec_core.specs.WellSorted.{IsWellSorted, sorts_of}
use Rattle.value_bank.specs.Cells.{Cell, AreTerms}
use Rattle.ground_eval.specs.Opened.{AllHaveVerdict}
use Rattle.refuter.specs.Blocks.{rows_of, block, IsBegun, AreBlockSizes, IsAsked}
use Rattle.refuter.specs.Looks.{LooksOver}
use Rattle.refuter.specs.Tables.{AreRightTables}
use Rattle.refuter.specs.declared.parts.Asked.{Asked}
use Rattle.refuter.specs.declared.parts.Look.{Look}
use Rattle.refuter.specs.declared.parts.Look.TheVariants.{Whole}
use Rattle.refuter.specs.declared.parts.Tally.{Tally}
use Rattle.refuter.specs.declared.tables.Tables.{Tables}
use Rattle.refuter.specs.declared.walking.Walk.{Walk}

-- the goal is one of the specification's, the odometer walks its values, with room for all of them,
-- and the sizes are those of its blocks
pub record IsReady (spec : Spec) (goal : Goal) (depth : ℕ) (sig : Sig) (bound : ℕ)
    (sizes : List ℕ) : Type 0 where
  pub fine : IsWellSorted spec
  pub listed : (k : ℕ) × (slice_get spec.goals k ≡ Some goal)
  pub walks : sig ≡ spec.sig
  pub room : bound ≡ 255 * length (sorts_of goal.vars)
  pub counted : AreBlockSizes spec.sig depth (sorts_of goal.vars) sizes

module _ (walk : Walk) where
  abbrev pub spec_of : Spec
  spec_of = walk.prepared.now.spec

  abbrev pub goal_of : Goal
  goal_of = walk.prepared.now.goal

  abbrev pub IsWalk : Type 0
  IsWalk = IsReady spec_of goal_of walk.depth walk.odometer.now walk.bound walk.sizes.now

  -- what is kept is right over these cells
  abbrev pub AreKept : List Cell → Tables → Type 0
  AreKept cells tables = AreRightTables walk.prepared.now cells tables

  -- values for the first variables are at the places, and these sorts are left
  abbrev pub HasBegun : List Cell → List ℕ → List SortId → List Tree → Type 0
  HasBegun cells places others firsts =
      IsBegun spec_of.sig walk.depth (sorts_of goal_of.vars) cells places others firsts

  -- there are rows of values of these sorts
  abbrev pub HasRows : List SortId → Type 0
  HasRows ss = 0 < length (rows_of spec_of.sig walk.depth ss)

  -- every row of values that begins with these has the verdict
  abbrev pub HaveVerdict : List Tree → Verdict → Type 0
  HaveVerdict firsts verdict = AllHaveVerdict spec_of goal_of firsts walk.budget verdict

  -- what is known of the rows that begin with these values, and go on with values of these sorts
  abbrev pub Knows : List Tree → List SortId → Asked → Type 0
  Knows firsts ss asked = IsAsked spec_of goal_of walk.budget walk.depth firsts ss asked

  -- what a look answers on the rows that begin with the values at these places, and go on with
  -- values of these sorts
  abbrev pub LooksAt : List Cell → List ℕ → List SortId → Tally → Tally → Look → Type 0
  LooksAt cells places ss old new look =
      (firsts : List Tree) → AreTerms cells places (trees_of firsts)
      → LooksOver spec_of goal_of walk.budget walk.tries
      (block spec_of.sig walk.depth firsts ss) old new look

-- if all rows were looked at, the values at the old places are at the new ones
abbrev pub StandsAgain : List Cell → List ℕ → List Cell → List ℕ → Look → Type 0
StandsAgain cells places now there look =
    look ≡ Whole → (firsts : List Tree)
    → AreTerms cells places (trees_of firsts) → AreTerms now there (trees_of firsts)

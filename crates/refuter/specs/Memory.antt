-- How many cells a search's bank has, however many substitutions are tried.
use Rattle.std.specs.Prelude.{ℕ, ◌+◌, ◌≤◌, ◌^◌, max, List, length}
use Rattle.value_bank.specs.Cells.{Cell}
use Rattle.ground_eval.specs.Looked.{most_looked}
use Rattle.refuter.specs.declared.parts.Look.{Look}
use Rattle.refuter.specs.declared.parts.Look.TheVariants.{Whole, Cut, Found}
use Rattle.refuter.specs.declared.walking.Walk.{Walk}

module _ (walk : Walk) where
  -- the cells with which a look may begin, and those that one verdict may add
  abbrev pub most_cells : ℕ
  most_cells = 2 ^ 18 + most_looked walk.prepared.now walk.budget

  -- there are at most this many cells if all rows were looked at, and else those of one row more
  abbrev pub HasAtMost : ℕ → List Cell → Look → Type 0
  HasAtMost most cells Whole = length cells ≤ most
  HasAtMost most cells Cut = length cells ≤ most + walk.bound
  HasAtMost most cells (Found row) = length cells ≤ most + walk.bound

  -- however many cells there were, a look leaves at most this many; if the tries are used up, at
  -- most as many or those that there were
  abbrev pub LeavesFew : List Cell → List Cell → Look → Type 0
  LeavesFew old new Whole = length new ≤ most_cells
  LeavesFew old new (Found row) = length new ≤ most_cells + walk.bound
  LeavesFew old new Cut = length new ≤ max (length old) (most_cells + walk.bound)

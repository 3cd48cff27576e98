-- What becomes of a row of places that goes on to the next row of values.
use Rattle.std.specs.Prelude.{◌≡◌, ℕ, ◌<◌, ◌^◌, List, ◌++◌, Bool, true, false, Option, Some, None}
use Rattle.term_core.specs.Tree.{Tree, trees_of}
use Rattle.spec_core.specs.Sig.{Sig, SortsAreInRange}
use Rattle.spec_core.specs.WellSorted.{HasFewArguments}
use Rattle.value_bank.specs.Cells.{Cell, IsTerm, AreTerms}
use Rattle.refuter.specs.Fewest.{AreRowsOf}

-- the value is at the place, or there is neither
abbrev pub IsPlaceOf : List Cell → Option Tree → Option ℕ → Type 0
IsPlaceOf cells None None = Unit {0}
IsPlaceOf cells None (Some place) = ⊥
IsPlaceOf cells (Some value) None = ⊥
IsPlaceOf cells (Some value) (Some place) = IsTerm cells place value

-- the row has places of these values after those that are kept, and the answer says whether there
-- are any
abbrev pub GoesOn : List Cell → List ℕ → Option (List Tree) → List ℕ → Bool → Type 0
GoesOn cells kept None row answer = (answer ≡ false) × (row ≡ kept)
GoesOn cells kept (Some values) row answer =
    (answer ≡ true)
    × ((places : List ℕ) × (row ≡ kept ++ places) × AreTerms cells places (trees_of values))

-- the signature has few arguments, of its own sorts, and the rows are its fewest sizes
pub record IsOdometer (sig : Sig) (sizes : List (List ℕ)) : Type 0 where
  pub in_range : SortsAreInRange sig
  pub arities : HasFewArguments sig
  pub few : sig.constructors < 2 ^ 32
  pub rows : AreRowsOf sig sizes

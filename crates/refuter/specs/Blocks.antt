-- The members of a list of substitutions that begin with the same values.
use Rattle.std.specs.Prelude.{◌≡◌, ℕ, ◌<◌, ◌≤◌, List, ◌++◌, map, length, slice_get, Some}
use Rattle.std.specs.List.{Contains}
use Rattle.term_core.specs.Tree.{Tree, trees_of}
use Rattle.term_core.specs.declared.ids.SortId.{SortId}
use Rattle.spec_core.specs.declared.records.Spec.{Spec}
use Rattle.spec_core.specs.declared.records.Goal.{Goal}
use Rattle.spec_core.specs.Sig.{Sig}
use Rattle.spec_core.specs.Order.{product, values}
use Rattle.value_bank.specs.Cells.{Cell, AreTerms}
use Rattle.ground_eval.specs.Opened.{AllHaveVerdict}
use Rattle.refuter.specs.declared.parts.Asked.{Asked}
use Rattle.refuter.specs.declared.parts.Asked.TheVariants.{Block, Split}

module _ (sig : Sig) (depth : ℕ) where
  -- the rows of values of the sorts, each of at most this depth
  abbrev pub rows_of : List SortId → List (List Tree)
  rows_of ss = product (map (λ s. values sig depth s) ss)

  -- the rows that begin with these values and go on with values of the sorts
  abbrev pub block : List Tree → List SortId → List (List Tree)
  block firsts ss = map (λ rest. firsts ++ rest) (rows_of ss)

  -- values of the first of all sorts are at the places, and these others are left
  pub record IsBegun (all : List SortId) (cells : List Cell) (places : List ℕ)
      (others : List SortId) (firsts : List Tree) : Type 0 where
    pub sorts : List SortId
    pub parted : sorts ++ others ≡ all
    pub listed : Contains (rows_of sorts) firsts
    pub stand : AreTerms cells places (trees_of firsts)

  -- the number, if it is below 2 ^ 32 - 1, is how many rows there are
  abbrev pub IsRowCount : List SortId → ℕ → Type 0
  IsRowCount ss size = size < 4294967295 → size ≡ length (rows_of ss)

  -- each number below 2 ^ 32 - 1 says how many rows there are of as many of the last sorts
  abbrev pub AreBlockSizes : List SortId → List ℕ → Type 0
  AreBlockSizes all sizes =
      (sorts others : List SortId) (size : ℕ) → sorts ++ others ≡ all
      → slice_get sizes (length others) ≡ Some size → IsRowCount others size

module _ (spec : Spec) (goal : Goal) (budget : ℕ) where
  -- the verdict of all rows of the block, and how many there are; or how many more values are to be
  -- fixed
  abbrev pub IsAsked : ℕ → List Tree → List SortId → Asked → Type 0
  IsAsked depth firsts ss (Block verdict size) =
      (size ≡ length (rows_of spec.sig depth ss)) × AllHaveVerdict spec goal firsts budget verdict
  IsAsked depth firsts ss (Split count) = (0 < count) × (count ≤ length ss)

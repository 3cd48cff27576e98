-- Which nodes of a block stay, as a flag for each.
use Rattle.std.specs.Prelude.{◌≡◌, ◌↔◌, ℕ, ◌<◌, List, Bool, Some, false, IsTrue, length, slice_get}
use Rattle.std.specs.Prelude.{slice_index, slice_index_or}
use Rattle.clause_core.specs.declared.answers.Children.{Children}
use Rattle.clause_core.specs.declared.answers.Reference.{Reference}
use Rattle.acceptance.specs.Strict.{first_child}
use Rattle.script_trim.specs.Cut.{new_number, Descends}

-- the flag of a number, which is false if there is none
abbrev pub flag_of : List Bool → ℕ → Bool
flag_of flags k = slice_index_or flags k false

-- those that don't descend from node i stay
pub record TellStaying (made : List Children) (i : ℕ) (flags : List Bool) : Type 0 where
  pub long : length flags ≡ length made
  pub tells : (k : ℕ) → IsTrue (flag_of flags k) ↔ ((k < length made) × ¬ (Descends made i k))

-- the number that each node gets: how many nodes before it stay
pub record AreNewNumbers (flags : List Bool) (numbers : List ℕ) : Type 0 where
  pub long : length numbers ≡ length flags
  pub tells : (k : ℕ) → k < length flags → slice_index numbers k ≡ new_number (flag_of flags) k

-- each node comes before its children
abbrev pub AreInOrder : List Children → Type 0
AreInOrder made = (k : ℕ) → k < length made → k < first_child made k

-- what is made refers to some of the first n nodes
abbrev pub RefersWithin : ℕ → Children → Type 0
RefersWithin n made = (a : ℕ) (r : Reference) → slice_get made.refs a ≡ Some r → r.node < n

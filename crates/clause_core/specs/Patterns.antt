-- Patterns of a sort, and which values they cover.
use Rattle.std.specs.Prelude.{◌≡◌, List, Any, length}
use Rattle.std.specs.List.{range_with_len}
use Rattle.term_core.specs.Tree.{Tree, instance}
use Rattle.term_core.specs.Variables.{occurrences}
use Rattle.term_core.specs.declared.ids.SortId.{SortId}
use Rattle.spec_core.specs.Sig.{Sig}
use Rattle.spec_core.specs.Sorts.{Sorted, IsValue}
use Rattle.spec_core.specs.WellSorted.{IsPattern}

-- a constructor term of the sort, whose variables have these sorts; they are numbered from 0 on, and
-- each occurs once
pub record IsPatternOf (sig : Sig) (sort : SortId) (ctx : List SortId) (p : Tree) : Type 0 where
  pub sorted : Sorted sig ctx p sort
  pub pattern : IsPattern sig p
  pub numbered : occurrences p ≡ range_with_len 0 (length ctx)

-- the value has this form
abbrev pub IsInstanceOf : Tree → Tree → Type 0
IsInstanceOf v p = (terms : List Tree) × (instance terms p ≡ v)

-- each value of the sort is an instance of some pattern
abbrev pub AreCovering : Sig → SortId → List Tree → Type 0
AreCovering sig sort patterns = (v : Tree) → IsValue sig sort v → Any (IsInstanceOf v) patterns

-- Rows of linear constructor patterns.
use Rattle.std.specs.Prelude.{ℕ, List}
use Rattle.term_core.specs.Tree.{Tree, trees_of}
use Rattle.term_core.specs.declared.ids.SortId.{SortId}
use Rattle.spec_core.specs.Sig.{Sig}
use Rattle.spec_core.specs.Sorts.{SortedAll}
use Rattle.spec_core.specs.WellSorted.{ArePatterns}
use Rattle.spec_core.specs.Linear.{OccurTwice}

-- patterns of the sorts, one of each, whose symbols are constructors and in which no variable
-- occurs twice
pub record IsRow (sig : Sig) (sorts : List SortId) (row : List Tree) : Type 0 where
  pub sorted : (ctx : List SortId) × SortedAll sig ctx (trees_of row) sorts
  pub patterns : ArePatterns sig (trees_of row)
  pub linear : (n : ℕ) → OccurTwice n (trees_of row) → ⊥

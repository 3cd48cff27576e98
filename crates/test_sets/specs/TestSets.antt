-- The test set of a sort: its constructors, applied to variables.
use Rattle.std.specs.Prelude.{ℕ, List, map, length}
use Rattle.term_core.specs.Tree.{Tree, app, trees_of}
use Rattle.term_core.specs.declared.ids.SortId.{SortId}
use Rattle.spec_core.specs.Sig.{Sig}
use Rattle.spec_core.specs.Order.{constructors_of}
use Rattle.clause_core.specs.Instances.{variables}

-- the constructor with arguments of these sorts, applied to the variables 0, 1 and so on
abbrev pub applied : ℕ × List SortId → Tree
applied c = app c.0 (trees_of (variables 0 (length c.1)))

-- each constructor of the sort in their order, so applied, and the sorts of its variables
abbrev pub test_set_of : Sig → SortId → List Tree
test_set_of sig s = map applied (constructors_of sig s)

abbrev pub contexts_of : Sig → SortId → List (List SortId)
contexts_of sig s = map (λ (c : ℕ × List SortId). c.1) (constructors_of sig s)

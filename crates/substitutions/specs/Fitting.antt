-- Substitutions that keep sorts.
use Rattle.std.specs.Prelude.{◌≡◌, ℕ, List, Option, Some, slice_get}
use Rattle.term_core.specs.Tree.{Tree}
use Rattle.term_core.specs.declared.ids.SortId.{SortId}
use Rattle.spec_core.specs.Sig.{Sig}
use Rattle.spec_core.specs.Sorts.{Sorted}
use Rattle.substitutions.specs.Substitution.{entry}

-- each variable of `from` has an entry of its sort over the variables `to`
abbrev pub Fits : Sig → List SortId → List SortId → List (Option Tree) → Type 0
Fits sig from to entries =
    (n : ℕ) (s : SortId) → slice_get from n ≡ Some s →
    (t : Tree) × (entry entries n ≡ Some t) × Sorted sig to t s

-- Functions that have a left side for all values.
use Rattle.std.specs.Prelude.{◌≡◌, ℕ, List, [], Some, slice_get}
use Rattle.term_core.specs.Tree.{Tree, Trees, app, instance}
use Rattle.spec_core.specs.declared.records.SymInfo.{SymInfo}
use Rattle.spec_core.specs.declared.records.Rule.{Rule}
use Rattle.spec_core.specs.declared.records.Spec.{Spec}
use Rattle.spec_core.specs.Sig.{info_of, IsConstructor}
use Rattle.spec_core.specs.Sorts.{SortedAll, AreBuilt}

-- some left side of the function matches the values
abbrev pub IsMatched : Spec → ℕ → Trees → Type 0
IsMatched spec f vs = (k : ℕ) × ((rule : Rule) × (slice_get spec.rules k ≡ Some rule)
    × ((xs : List Tree) × (instance xs rule.left ≡ app f vs)))

-- each list of values of a function's argument sorts matches some left side of it
abbrev pub IsCovering : Spec → Type 0
IsCovering spec =
    (f : ℕ) (i : SymInfo) (vs : Trees) → info_of spec.sig f ≡ Some i → ¬ (IsConstructor spec.sig f)
    → SortedAll spec.sig [] vs i.args → AreBuilt spec.sig vs → IsMatched spec f vs

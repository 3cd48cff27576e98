-- Left sides that no values match together.
use Rattle.std.specs.Prelude.{◌≡◌, ℕ, List, [], Some, slice_get}
use Rattle.term_core.specs.Tree.{Tree, Trees, app, instance}
use Rattle.spec_core.specs.declared.records.SymInfo.{SymInfo}
use Rattle.spec_core.specs.declared.records.Rule.{Rule}
use Rattle.spec_core.specs.declared.records.Spec.{Spec}
use Rattle.spec_core.specs.Sig.{info_of}
use Rattle.spec_core.specs.Sorts.{SortedAll, AreBuilt}

-- no list of values of a function's argument sorts matches two different left sides
abbrev pub NoOverlap : Spec → Type 0
NoOverlap spec =
    (j k : ℕ) (r q : Rule) (f : ℕ) (i : SymInfo) (vs : Trees) (xs ys : List Tree)
    → slice_get spec.rules j ≡ Some r → slice_get spec.rules k ≡ Some q
    → info_of spec.sig f ≡ Some i → SortedAll spec.sig [] vs i.args → AreBuilt spec.sig vs
    → instance xs r.left ≡ app f vs → instance ys q.left ≡ app f vs → r.left ≡ q.left

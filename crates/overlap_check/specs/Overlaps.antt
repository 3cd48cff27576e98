-- Left sides that some values match together.
use Rattle.std.specs.Prelude.{◌≡◌, ◌≢◌, ℕ, ◌<◌, List, [], Some, slice_get}
use Rattle.term_core.specs.Tree.{Tree, Trees, app, instance}
use Rattle.spec_core.specs.declared.records.SymInfo.{SymInfo}
use Rattle.spec_core.specs.declared.records.Rule.{Rule}
use Rattle.spec_core.specs.declared.records.Spec.{Spec}
use Rattle.spec_core.specs.Sig.{Sig, info_of}
use Rattle.spec_core.specs.Sorts.{SortedAll, AreBuilt}

-- values of the argument sorts of a function, whose call with them is an instance of both terms
pub record MatchBoth (sig : Sig) (left other : Tree) (values : Trees) : Type 0 where
  pub function : ℕ
  pub info : SymInfo
  pub declared : info_of sig function ≡ Some info
  pub sorted : SortedAll sig [] values info.args
  pub built : AreBuilt sig values
  pub matches_left : (xs : List Tree) × (instance xs left ≡ app function values)
  pub matches_other : (ys : List Tree) × (instance ys other ≡ app function values)

-- two different left sides that one list of values matches both
abbrev pub HaveOverlap : Sig → Tree → Tree → Type 0
HaveOverlap sig left other = (left ≢ other) × ((values : Trees) × MatchBoth sig left other values)

-- the rules at these places have such left sides
abbrev pub Overlaps : Spec → ℕ → ℕ → Type 0
Overlaps spec j k =
    (r : Rule) × (q : Rule)
    × (slice_get spec.rules j ≡ Some r) × (slice_get spec.rules k ≡ Some q)
    × HaveOverlap spec.sig r.left q.left

-- the rules at these places overlap, and no pair before them does, by the first place and then by
-- the second
pub record IsFirstOverlap (spec : Spec) (j k : ℕ) : Type 0 where
  pub overlaps : Overlaps spec j k
  pub ordered : j < k
  pub none_before : (a b : ℕ) → a < j → a < b → Overlaps spec a b → ⊥
  pub none_between : (b : ℕ) → j < b → b < k → Overlaps spec j b → ⊥

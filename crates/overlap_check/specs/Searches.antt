-- What a search for the first overlap says of one rule, and of one pair.
use Rattle.std.specs.Prelude.{◌≢◌, ℕ, ◌<◌, List}
use Rattle.std.specs.List.{AllByRecursion}
use Rattle.term_core.specs.Tree.{Trees}
use Rattle.spec_core.specs.declared.records.VarInfo.{VarInfo}
use Rattle.spec_core.specs.declared.records.Rule.{Rule}
use Rattle.spec_core.specs.declared.records.Spec.{Spec}
use Rattle.spec_core.specs.Sig.{Sig, IsSort}
use Rattle.overlap_check.specs.Overlaps.{MatchBoth, Overlaps}
use Rattle.overlap_check.specs.NamedValues.{NamesOverlap}
use Rattle.overlap_check.specs.Answers.{AreCommon}

-- the rule at this place overlaps no later one before the end
abbrev pub NoneOverlapsAfter : Spec → ℕ → ℕ → Type 0
NoneOverlapsAfter spec place end = (k : ℕ) → place < k → k < end → Overlaps spec place k → ⊥

-- the first later rule that it overlaps, with the values for both
pub record IsFirstAfter (spec : Spec) (place other : ℕ) (values : Trees) : Type 0 where
  pub ordered : place < other
  pub overlaps : Overlaps spec place other
  pub common : AreCommon spec place other values
  pub none_between : NoneOverlapsAfter spec place other

-- the left sides are different, and both match the values, which are the ones named for the two
pub record AreCommonTo (sig : Sig) (first second : Rule) (values : Trees) : Type 0 where
  pub different : first.left ≢ second.left
  pub match_both : MatchBoth sig first.left second.left values
  pub named : NamesOverlap sig first second values

-- the sorts of the variables are the signature's
abbrev pub HaveSorts : Sig → List VarInfo → Type 0
HaveSorts sig vars = AllByRecursion (λ (v : VarInfo). IsSort sig v.sort) vars

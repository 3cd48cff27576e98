-- What an answer about overlaps says of a specification.
use Rattle.std.specs.Prelude.{◌≡◌, ℕ, ◌+◌, ◌<◌, Some, slice_get}
use Rattle.term_core.specs.Tree.{Trees, trees_of}
use Rattle.spec_core.specs.declared.records.Rule.{Rule}
use Rattle.spec_core.specs.declared.records.Spec.{Spec}
use Rattle.spec_core.specs.Overlap.{NoOverlap}
use Rattle.overlap_check.specs.declared.answers.Overlap.{Overlap}
use Rattle.overlap_check.specs.declared.answers.Overlap.TheVariants.{Fine, Both}
use Rattle.overlap_check.specs.Overlaps.{MatchBoth, Overlaps, IsFirstOverlap}
use Rattle.overlap_check.specs.NamedValues.{NamesOverlap}

-- both left sides of the rules at these places match the values, which are those named for the two
pub record AreCommon (spec : Spec) (j k : ℕ) (values : Trees) : Type 0 where
  pub first : Rule
  pub second : Rule
  pub first_at : slice_get spec.rules j ≡ Some first
  pub second_at : slice_get spec.rules k ≡ Some second
  pub match_both : MatchBoth spec.sig first.left second.left values
  pub named : NamesOverlap spec.sig first second values

-- no pair of rules overlaps
abbrev pub NoneOverlaps : Spec → Type 0
NoneOverlaps spec = (j k : ℕ) → j < k → Overlaps spec j k → ⊥

-- what an answer says of a specification; rules count from 1
abbrev pub IsOverlap : Spec → Overlap → Type 0
IsOverlap spec Fine = NoneOverlaps spec × NoOverlap spec
IsOverlap spec (Both first second values) =
    (j : ℕ) × (k : ℕ) × (first ≡ j + 1) × (second ≡ k + 1)
    × IsFirstOverlap spec j k × AreCommon spec j k (trees_of values)

-- How a search goes through the pairs of rules.
use Rattle.std.proofs.Common.{◌≡◌, ◌≢◌, ℕ, ◌+◌, ◌<◌, ◌≤◌, ◌⊎◌, List, Some, inl, inr, ap, sym, ◌∙◌, subst, arith}
use Rattle.std.proofs.Common.{length, get_or, refl}
use Rattle.std.specs.Prelude.{slice_get}
use Rattle.std.proofs.lemmas.Bool.{cases_lt}
use Rattle.std.proofs.lemmas.Option.{slice_get_read, slice_get_within}
use Rattle.term_core.specs.Tree.{Tree, Trees}
use Rattle.spec_core.specs.declared.records.Rule.{Rule}
use Rattle.spec_core.specs.declared.records.Spec.{Spec}
use Rattle.spec_core.specs.Sig.{Sig}
use Rattle.spec_core.specs.Overlap.{NoOverlap}
use Rattle.overlap_check.specs.Overlaps.{MatchBoth, HaveOverlap, Overlaps}
use Rattle.overlap_check.specs.Answers.{NoneOverlaps}
use Rattle.overlap_check.specs.Clashes.{HaveNoCommonInstance}
use Rattle.overlap_check.specs.Searches.{AreCommonTo, NoneOverlapsAfter, IsFirstAfter}
use Rattle.term_core.proofs.SameTrees.{same_tree_or_not}
use Rattle.term_core.proofs.Numbers.{below_or_last}

-- the rule that was read from a slice of the rules
pub rule_at : (items rules : List Rule) (place : ℕ) (rule : Rule) → items ≡ rules → place < length items →
    rule ≡ get_or items place rule → slice_get rules place ≡ Some rule
rule_at items rules place rule e h is = subst (λ rs. slice_get rs place ≡ Some rule) e
    (slice_get_read items (length items) place rule refl h is)

-- terms without a common instance have no overlap
pub none_in_common : (sig : Sig) (left other : Tree) → HaveNoCommonInstance left other → HaveOverlap sig left other → ⊥
none_in_common sig left other none overlap =
    let both = overlap.1.1 in
    none both.matches_left.0 both.matches_other.0 (both.matches_left.1 ∙ sym both.matches_other.1)

module _ (spec : Spec) (place other : ℕ) (r q : Rule) (at : slice_get spec.rules place ≡ Some r)
    (other_at : slice_get spec.rules other ≡ Some q) where
  -- one more rule that the one at the place doesn't overlap
  pub none_more : NoneOverlapsAfter spec place other → (HaveOverlap spec.sig r.left q.left → ⊥) →
      NoneOverlapsAfter spec place (other + 1)
  none_more before not_here k after within overlaps = by (below_or_last k other within)
    where
      by : (k < other) ⊎ (k ≡ other) → ⊥
      by (inl h) = before k after h overlaps
      by (inr h) =
          let e : Some overlaps.0 ≡ Some r = sym overlaps.2 ∙ at in
          let f : Some overlaps.1 ≡ Some q = sym overlaps.3 ∙ ap (λ n. slice_get spec.rules n) h ∙ other_at in
          let one : overlaps.0 ≡ r = cc in
          let two : overlaps.1 ≡ q = cc in
          not_here (subst (λ (x : Rule). HaveOverlap spec.sig r.left x.left) two
          (subst (λ (x : Rule). HaveOverlap spec.sig x.left overlaps.1.left) one overlaps.4))

  -- the first one that it overlaps
  pub first_after : (values : Trees) → place < other → NoneOverlapsAfter spec place other →
      AreCommonTo spec.sig r q values → IsFirstAfter spec place other values
  first_after values h before common =
      record {
        ordered = h;
        overlaps = (r, q, at, other_at, (common.different, (values, common.match_both)));
        common = record {
          first = r;
          second = q;
          first_at = at;
          second_at = other_at;
          match_both = common.match_both;
          named = common.named;
        };
        none_between = before;
      }

module _ (spec : Spec) where
  -- the rules before a place overlap no later one, and neither does the one there
  pub none_later : (place : ℕ) → ((j k : ℕ) → j < place → j < k → Overlaps spec j k → ⊥) →
      NoneOverlapsAfter spec place (length spec.rules) → (j k : ℕ) → j < place + 1 → j < k → Overlaps spec j k → ⊥
  none_later place before here j k within after overlaps = by (below_or_last j place within)
    where
      by : (j < place) ⊎ (j ≡ place) → ⊥
      by (inl h) = before j k h after overlaps
      by (inr h) = here k (omega arith) (slice_get_within spec.rules k overlaps.1 overlaps.3)
          (subst (λ n. Overlaps spec n k) h overlaps)

  pub none_overlaps : (place : ℕ) → length spec.rules ≤ place →
      ((j k : ℕ) → j < place → j < k → Overlaps spec j k → ⊥) → NoneOverlaps spec
  none_overlaps place end before j k after overlaps = before j k
      (omega (arith, slice_get_within spec.rules j overlaps.0 overlaps.2)) after overlaps

  -- if no rule overlaps a later one, no values match two different left sides
  pub no_overlap : NoneOverlaps spec → NoOverlap spec
  no_overlap nothing j k r q f i vs xs ys at other_at declared sorted built e d = by (same_tree_or_not r.left q.left)
    where
      first : MatchBoth spec.sig r.left q.left vs
      first = record {
        function = f;
        info = i;
        declared = declared;
        sorted = sorted;
        built = built;
        matches_left = (xs, e);
        matches_other = (ys, d);
      }

      second : MatchBoth spec.sig q.left r.left vs
      second = record {
        function = f;
        info = i;
        declared = declared;
        sorted = sorted;
        built = built;
        matches_left = (ys, d);
        matches_other = (xs, e);
      }

      either : r.left ≢ q.left → (j < k) ⊎ (k ≤ j) → (k < j) ⊎ (j ≤ k) → r.left ≡ q.left
      either n (inl h) _ = absurd (nothing j k h (r, q, at, other_at, (n, (vs, first))))
      either n (inr h) (inl l) = absurd (nothing k j l (q, r, other_at, at, (λ s. n (sym s), (vs, second))))
      either n (inr h) (inr l) =
          let same : j ≡ k = omega arith in
          let s : Some r ≡ Some q = sym at ∙ ap (λ m. slice_get spec.rules m) same ∙ other_at in
          let o : r ≡ q = cc in
          ap (λ (x : Rule). x.left) o

      by : (r.left ≡ q.left) ⊎ (r.left ≢ q.left) → r.left ≡ q.left
      by (inl h) = h
      by (inr h) = either h (cases_lt j k) (cases_lt k j)

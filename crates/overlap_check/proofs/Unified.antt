-- Two left sides under a most general unifier, and under any values that both match.
use Rattle.std.proofs.Common.{◌≡◌, ℕ, ◌+◌, List, [], ◌++◌, Option, Some, None, ap, sym, ◌∙◌, subst, length}
use Rattle.std.specs.Prelude.{unwrap_or}
use Rattle.term_core.specs.Tree.{Tree, Trees, var, app, instance, instances, trees_of}
use Rattle.term_core.specs.declared.ids.SortId.{SortId}
use Rattle.spec_core.specs.declared.records.SymInfo.{SymInfo}
use Rattle.spec_core.specs.Sig.{Sig, info_of}
use Rattle.spec_core.specs.Sorts.{Sorted, SortedAll, AreBuilt}
use Rattle.spec_core.specs.Small.{AreSmall}
use Rattle.term_core.specs.Variables.{Numbered}
use Rattle.spec_core.specs.WellSorted.{IsLeft}
use Rattle.spec_core.proofs.Instances.{sorted_instances}
use Rattle.substitutions.specs.Substitution.{entry, image, apply, apply_all}
use Rattle.unifier.specs.Shifting.{shifted, shifted_all}
use Rattle.unifier.specs.Unification.{IsMostGeneral, KeepsSorts}
use Rattle.overlap_check.specs.Overlaps.{MatchBoth}
use Rattle.term_core.proofs.Numbered.{numbered_below}
use Rattle.overlap_check.proofs.Instances.{instance_of_applied, instance_of_shifted, first_values, value_at}
use Rattle.overlap_check.proofs.Instances.{value_after, value_of, EntriesKeepSorts, sorted_all_applied, sorted_left}
use Rattle.overlap_check.proofs.Instances.{sorted_right}
use Rattle.overlap_check.proofs.Constructors.{unified_patterns, patterns_shifted}
use Rattle.overlap_check.proofs.SmallEntries.{entry_is_value, patterns_are_built}
use Rattle.term_core.proofs.Trees.{instance_none}

-- two left sides with a common instance are calls of one function, so they have one sort
one_sort : (sig : Sig) (ctx : List SortId) (f g : ℕ) (ps qs : Trees) (r s : SortId) → f ≡ g →
    Sorted sig ctx (app f ps) r → Sorted sig ctx (app g qs) s → Sorted sig ctx (app g qs) r
one_sort sig ctx f g ps qs r s e p q =
    let k : Some p.0 ≡ Some q.0 = sym p.1 ∙ ap (λ n. info_of sig n) e ∙ q.1 in
    let i : p.0 ≡ q.0 = cc in
    (q.0, q.1, ap (λ (x : SymInfo). x.result) (sym i) ∙ p.2, q.3)

module _ (sig : Sig) (ctx more : List SortId) where
  module _ (a b : Tree) (numbered : Numbered 0 a (length ctx)) (other_numbered : Numbered 0 b (length more)) where
    -- values that both match make a unifier of the terms with their variables apart
    pub unifier_of_match : (xs ys : List Tree) → instance xs a ≡ instance ys b → (s : List (Option Tree))
        × (apply s a ≡ apply s (shifted (length ctx) b))
    unifier_of_match xs ys e = (s, left ∙ e ∙ sym right)
      where
        first : List (Option Tree)
        first = first_values (λ k. Some (instance xs (var k))) (length ctx)

        second : List (Option Tree)
        second = first_values (λ k. Some (instance ys (var k))) (length more)

        s : List (Option Tree)
        s = first ++ second

        unfold_image : (n : ℕ) (t : Tree) → entry s n ≡ Some t → instance [] (image s n) ≡ t
        unfold_image n t h = ap (λ x. instance [] (unwrap_or x (var n))) h ∙ instance_none t

        left : apply s a ≡ instance xs a
        left = sym (instance_none (apply s a))
            ∙ instance_of_applied [] s xs a
            (λ n o. unfold_image n (instance xs (var n))
            (value_at (λ k. Some (instance xs (var k))) (length ctx) second n None
            (numbered_below 0 (length ctx) a numbered n o)))

        right : apply s (shifted (length ctx) b) ≡ instance ys b
        right = sym (instance_none (apply s (shifted (length ctx) b)))
            ∙ instance_of_shifted [] s ys (length ctx) b
            (λ n o. unfold_image (n + length ctx) (instance ys (var n))
            (value_after (λ k. Some (instance xs (var k))) (length ctx) second n None
            ∙ value_of (λ k. Some (instance ys (var k))) (length more) n None
            (numbered_below 0 (length more) b other_numbered n o)))

    -- what one substitution after another makes of a term is one instance of it
    module _ (s : List (Option Tree)) (smalls : List Tree) where
      pub left_instance : (xs : List Tree) × (instance xs a ≡ instance smalls (apply s a))
      left_instance =
          let xs = first_values (λ k. instance smalls (image s k)) (length ctx) in (
            xs,
            sym (instance_of_applied smalls s xs a
                (λ n o. sym (value_of (λ k. instance smalls (image s k)) (length ctx) n (var n)
                (numbered_below 0 (length ctx) a numbered n o)))),
          )

      pub right_instance : (ys : List Tree) × (instance ys b ≡ instance smalls (apply s (shifted (length ctx) b)))
      right_instance =
          let ys = first_values (λ k. instance smalls (image s (k + length ctx))) (length more) in (
            ys,
            sym (instance_of_shifted smalls s ys (length ctx) b
                (λ n o. sym (value_of (λ k. instance smalls (image s (k + length ctx))) (length more) n (var n)
                (numbered_below 0 (length more) b other_numbered n o)))),
          )

  -- the terms have one sort together, which their unifier keeps
  pub unified_sorted : (a b : Tree) → IsLeft sig a → IsLeft sig b → (r u : SortId) → Sorted sig ctx a r →
      Sorted sig more b u → (s : List (Option Tree)) → apply s a ≡ apply s (shifted (length ctx) b) →
      KeepsSorts a (shifted (length ctx) b) s → EntriesKeepSorts sig (ctx ++ more) s
  unified_sorted (var n) b left right r u p q s e keeps = absurd left
  unified_sorted (app f ps) (var n) left right r u p q s e keeps = absurd right
  unified_sorted (app f ps) (app g qs) left right r u p q s e keeps =
      let both = ctx ++ more in
      let by = length ctx in
      let calls : app f (apply_all s ps) ≡ app g (apply_all s (shifted_all by qs)) = e in
      let same : f ≡ g = cc in
      let a_sorted : Sorted sig both (app f ps) r = sorted_left sig ctx more (app f ps) r p in
      keeps sig both r a_sorted (one_sort sig both f g ps (shifted_all by qs) r u same a_sorted
      (sorted_right sig ctx more (app g qs) u q))

  -- the arguments under a most general unifier and small values are values that both match
  pub named_match : (a b : Tree) → Numbered 0 a (length ctx) → Numbered 0 b (length more) → IsLeft sig a →
      IsLeft sig b → (r u : SortId) → Sorted sig ctx a r → Sorted sig more b u → (s : List (Option Tree)) →
      IsMostGeneral a (shifted (length ctx) b) s → KeepsSorts a (shifted (length ctx) b) s →
      (smalls : List Tree) → AreSmall sig (ctx ++ more) (trees_of smalls) → (h : ℕ) (vs : Trees) →
      instance smalls (apply s a) ≡ app h vs → MatchBoth sig a b vs
  named_match (var n) b numbered other left right r u p q s general keeps smalls small h vs call = absurd left
  named_match (app f ps) (var n) numbered other left right r u p q s general keeps smalls small h vs call = absurd right
  named_match (app f ps) (app g qs) numbered other left right r u p q s general keeps smalls small h vs call =
      let both = ctx ++ more in
      let by = length ctx in
      let a_sorted : Sorted sig both (app f ps) r = sorted_left sig ctx more (app f ps) r p in
      let entries = unified_sorted (app f ps) (app g qs) left right r u p q s general.unifies keeps in
      let sorted : SortedAll sig both (apply_all s ps) a_sorted.0.args = sorted_all_applied sig both s entries
      ps a_sorted.0.args a_sorted.3 in
      let call_is : app f (instances smalls (apply_all s ps)) ≡ app h vs = call in
      let values : instances smalls (apply_all s ps) ≡ vs = cc in
      let function : h ≡ f = cc in
      let ground = sorted_instances sig both (apply_all s ps) a_sorted.0.args smalls sorted
      (λ n v at. (entry_is_value sig both smalls small n v at).0) in
      let patterns = unified_patterns sig f g ps (shifted_all by qs) s general left.1
      (patterns_shifted sig by qs right.1) in
      let built = patterns_are_built sig both smalls small (apply_all s ps) a_sorted.0.args sorted patterns in
      let one = left_instance (app f ps) (app g qs) numbered other s smalls in
      let two = right_instance (app f ps) (app g qs) numbered other s smalls in
      let named : instance smalls (apply s (app f ps)) ≡ app f vs = call ∙ ap (λ n. app n vs) function in
      record {
        function = f;
        info = a_sorted.0;
        declared = a_sorted.1;
        sorted = subst (λ ts. SortedAll sig [] ts a_sorted.0.args) values ground;
        built = subst (λ ts. AreBuilt sig ts) values built;
        matches_left = (one.0, one.1 ∙ named);
        matches_other = (two.0, two.1 ∙ sym (ap (λ t. instance smalls t) general.unifies) ∙ named);
      }

-- Uses of rules and normal terms under other numbers for the variables.
use Rattle.std.proofs.Common.{◌≡◌, ℕ, ◌+◌, ◌<◌, List, [], ◌∷◌, Option, Some, inl, inr, map, length, option_map, refl}
use Rattle.std.proofs.Common.{ap, sym, ◌∙◌, subst, arith}
use Rattle.std.specs.Prelude.{slice_get, slice_set}
use Rattle.std.specs.List.{range_with_len}
use Rattle.std.proofs.lemmas.List.{map-set}
use Rattle.std.proofs.lemmas.List.FromFn.{length-map-range_with_len, get_or-map-range_with_len}
use Rattle.std.proofs.lemmas.Option.{slice_get-map}
use Rattle.term_core.specs.Tree.{Tree, Trees, var, app, none, some, trees_of, list_of, instance}
use Rattle.term_core.specs.Places.{IsArgument, IsAt, IsExchanged, IsReplaced}
use Rattle.term_core.specs.Variables.{Occurs, OccursAny}
use Rattle.term_core.specs.declared.ids.SortId.{SortId}
use Rattle.term_core.proofs.Paths.{one_subterm}
use Rattle.spec_core.specs.declared.records.Spec.{Spec}
use Rattle.spec_core.specs.Sig.{Sig}
use Rattle.spec_core.specs.Sorts.{Sorted, SortedAll}
use Rattle.spec_core.specs.WellSorted.{IsWellSorted, sorts_of}
use Rattle.spec_core.proofs.Determined.{occurs_within}
use Rattle.substitutions.specs.Substitution.{image, apply, apply_all}
use Rattle.substitutions.proofs.Instances.{apply_same, apply_values}
use Rattle.normalization.specs.Uses.{Use}
use Rattle.normalization.specs.FirstUses.{IsFirstUse}
use Rattle.normalization.specs.NormalForms.{IsNormal}
use Rattle.plain_proof.proofs.RenamedTidying.{renamed, renamed_all}

-- the first terms of a function
abbrev pub tabulated : (ℕ → Tree) → ℕ → List Tree
tabulated f n = map f (range_with_len 0 n)

abbrev pub entries_of : List Tree → List (Option Tree)
entries_of ts = map (λ (t : Tree). Some t) ts

pub tabulated_long : (f : ℕ → Tree) (n : ℕ) → length (tabulated f n) ≡ n
tabulated_long f n = length-map-range_with_len f 0 n

pub tabulated_image : (f : ℕ → Tree) (n k : ℕ) → k < n → image (entries_of (tabulated f n)) k ≡ f k
tabulated_image f n k lt =
    let z : 0 + k ≡ k = omega arith in
    apply_values (tabulated f n) (var k) ∙ get_or-map-range_with_len f 0 n k k (var k) lt z

-- a term with the images of its variables, of which there are this many, as a list
pub tabulated_instance : (s : List (Option Tree)) (n : ℕ) (t : Tree) → ((k : ℕ) → Occurs k t → k < n) →
    instance (tabulated (image s) n) t ≡ apply s t
tabulated_instance s n t below =
    sym (apply_values (tabulated (image s) n) t) ∙ apply_same t (entries_of (tabulated (image s) n)) s
    (λ k o. tabulated_image (image s) n k (below k o))

module _ (r : ℕ → ℕ) where
  arguments_renamed : (ts : Trees) → list_of (renamed_all r ts) ≡ map (renamed r) (list_of ts)
  arguments_renamed none = refl
  arguments_renamed (some t ts) = ap (λ us. renamed r t ∷ us) (arguments_renamed ts)

  trees_renamed : (ts : List Tree) → renamed_all r (trees_of ts) ≡ trees_of (map (renamed r) ts)
  trees_renamed [] = refl
  trees_renamed (t ∷ ts) = ap (λ us. some (renamed r t) us) (trees_renamed ts)

  argument_renamed : (number : ℕ) (ts : Trees) (t : Tree) → IsArgument number ts t →
      IsArgument number (renamed_all r ts) (renamed r t)
  argument_renamed number ts t a = (
    a.0,
    a.1,
    ap (λ us. slice_get us a.0) (arguments_renamed ts) ∙ slice_get-map (renamed r) (list_of ts) a.0
        ∙ ap (λ o. option_map (renamed r) o) a.2,
  )

  pub at_renamed : (p : List ℕ) (t s : Tree) → IsAt p t s → IsAt p (renamed r t) (renamed r s)
  at_renamed [] t s a = ap (λ x. renamed r x) a
  at_renamed (j ∷ p) (var n) s a = absurd a
  at_renamed (j ∷ p) (app f ts) s a = (renamed r a.0, argument_renamed j ts a.0 a.1, at_renamed p a.0 s a.2)

  exchange_renamed : (number : ℕ) (ts us : Trees) (t : Tree) → IsExchanged number ts t us →
      IsExchanged number (renamed_all r ts) (renamed r t) (renamed_all r us)
  exchange_renamed number ts us t e = (
    e.0,
    e.1,
    ap (λ ws. renamed_all r ws) e.2
        ∙ trees_renamed (slice_set (list_of ts) e.0 t)
        ∙ ap (λ ws. trees_of ws) (map-set (renamed r) (list_of ts) e.0 t)
        ∙ ap (λ ws. trees_of (slice_set ws e.0 (renamed r t))) (sym (arguments_renamed ts)),
  )

  pub replaced_renamed : (p : List ℕ) (t new made : Tree) → IsReplaced p t new made →
      IsReplaced p (renamed r t) (renamed r new) (renamed r made)
  replaced_renamed [] t new made e = ap (λ x. renamed r x) e
  replaced_renamed (j ∷ p) (var n) new made e = absurd e
  replaced_renamed (j ∷ p) (app f ts) new made e = (
    renamed r e.0,
    renamed r e.1,
    renamed_all r e.2,
    argument_renamed j ts e.0 e.3,
    replaced_renamed p e.0 new e.1 e.4,
    exchange_renamed j ts e.2 e.1 e.5,
    ap (λ x. renamed r x) e.6,
  )

  -- an instance under other numbers
  mutual
    pub apply_renamed : (s both : List (Option Tree)) (t : Tree) →
        ((n : ℕ) → Occurs n t → image both n ≡ renamed r (image s n)) → apply both t ≡ renamed r (apply s t)
    apply_renamed s both (var n) h = h n refl
    apply_renamed s both (app f ts) h = ap (λ us. app f us) (apply_all_renamed s both ts h)

    apply_all_renamed : (s both : List (Option Tree)) (ts : Trees) →
        ((n : ℕ) → OccursAny n ts → image both n ≡ renamed r (image s n)) →
        apply_all both ts ≡ renamed_all r (apply_all s ts)
    apply_all_renamed s both none h = refl
    apply_all_renamed s both (some t ts) h =
        let p = apply_renamed s both t (λ n o. h n (inl o)) in
        let q = apply_all_renamed s both ts (λ n o. h n (inr o)) in
        λ i. some (p i) (q i)

  pub use_renamed : (spec : Spec) → IsWellSorted spec → (k : ℕ) (t u : Tree) → Use spec k t u →
      Use spec k (renamed r t) (renamed r u)
  use_renamed spec fine k t u w =
      let rule = w.rule in
      let ctx = sorts_of rule.vars in
      let sides = (fine.rules w.listed.0 rule w.listed.2).sides in
      let both = entries_of (tabulated (λ n. renamed r (image w.entries n)) (length ctx)) in
      let left : apply both rule.left ≡ renamed r (apply w.entries rule.left) =
      apply_renamed w.entries both rule.left (λ n o. tabulated_image (λ m. renamed r (image w.entries m))
      (length ctx) n (occurs_within spec.sig ctx rule.left sides.0 sides.1 n o)) in
      let right : apply both rule.right ≡ renamed r (apply w.entries rule.right) =
      apply_renamed w.entries both rule.right (λ n o. tabulated_image (λ m. renamed r (image w.entries m))
      (length ctx) n (occurs_within spec.sig ctx rule.right sides.0 sides.2 n o)) in
      record {
        rule = rule;
        entries = both;
        listed = w.listed;
        unguarded = w.unguarded;
        left = left ∙ ap (λ x. renamed r x) w.left;
        right = ap (λ x. renamed r x) w.right ∙ sym right;
      }

  -- sorts under other numbers
  module _ (sig : Sig) (from to : List SortId) where
    mutual
      pub sorted_renamed : (t : Tree) (s : SortId) →
          ((n : ℕ) (q : SortId) → Occurs n t → slice_get from n ≡ Some q → slice_get to (r n) ≡ Some q) →
          Sorted sig from t s → Sorted sig to (renamed r t) s
      sorted_renamed (var n) s h p = h n s refl p
      sorted_renamed (app f ts) s h p = (p.0, p.1, p.2, sorted_all_renamed ts p.0.args h p.3)

      sorted_all_renamed : (ts : Trees) (ss : List SortId) →
          ((n : ℕ) (q : SortId) → OccursAny n ts → slice_get from n ≡ Some q → slice_get to (r n) ≡ Some q) →
          SortedAll sig from ts ss → SortedAll sig to (renamed_all r ts) ss
      sorted_all_renamed none [] h p = tt
      sorted_all_renamed none (s ∷ ss) h p = absurd p
      sorted_all_renamed (some t ts) [] h p = absurd p
      sorted_all_renamed (some t ts) (s ∷ ss) h p = (
        sorted_renamed t s (λ n q o. h n q (inl o)) p.0,
        sorted_all_renamed ts ss (λ n q o. h n q (inr o)) p.1,
      )

mutual
  -- numbers that are taken back
  pub renamed_back : (r back : ℕ → ℕ) (t : Tree) → ((n : ℕ) → Occurs n t → back (r n) ≡ n) →
      renamed back (renamed r t) ≡ t
  renamed_back r back (var n) h = ap (λ k. var k) (h n refl)
  renamed_back r back (app f ts) h = ap (λ us. app f us) (all_renamed_back r back ts h)

  all_renamed_back : (r back : ℕ → ℕ) (ts : Trees) → ((n : ℕ) → OccursAny n ts → back (r n) ≡ n) →
      renamed_all back (renamed_all r ts) ≡ ts
  all_renamed_back r back none h = refl
  all_renamed_back r back (some t ts) h =
      let p = renamed_back r back t (λ n o. h n (inl o)) in
      let q = all_renamed_back r back ts (λ n o. h n (inr o)) in
      λ i. some (p i) (q i)

module _ (spec : Spec) (fine : IsWellSorted spec) (r back : ℕ → ℕ) (t : Tree)
    (takes : renamed back (renamed r t) ≡ t) where
  taken_back : (p : List ℕ) (s : Tree) → IsAt p (renamed r t) s → IsAt p t (renamed back s)
  taken_back p s at = subst (λ x. IsAt p x (renamed back s)) takes (at_renamed back p (renamed r t) s at)

  pub normal_renamed : IsNormal spec t → IsNormal spec (renamed r t)
  normal_renamed h p s at k u w = h p (renamed back s) (taken_back p s at) k (renamed back u)
      (use_renamed back spec fine k s u w)

  -- the leftmost-innermost use stays the same
  pub first_renamed : (u : Tree) (p : List ℕ) (k : ℕ) → IsFirstUse spec t p k u →
      IsFirstUse spec (renamed r t) p k (renamed r u)
  first_renamed u p k w =
      let old : renamed back (renamed r w.old) ≡ w.old = one_subterm p t (renamed back (renamed r w.old)) w.old
      (taken_back p (renamed r w.old) (at_renamed r p t w.old w.at)) w.at in
      record {
        old = renamed r w.old;
        new = renamed r w.new;
        at = at_renamed r p t w.old w.at;
        rule = use_renamed r spec fine k w.old w.new w.rule;
        made = replaced_renamed r p t w.new u w.made;
        first = λ q s before at m v x. w.first q (renamed back s) before (taken_back q s at) m (renamed back v)
            (use_renamed back spec fine m s v x);
        least = λ m v less x. w.least m (renamed back v) less
            (subst (λ y. Use spec m y (renamed back v)) old (use_renamed back spec fine m (renamed r w.old) v x));
      }

-- Which left sides of rules for addition overlap, and with what values.
use Rattle.std.proofs.Common.{rules, ◌≡◌, ℕ, zero, suc, ◌<◌, List, [], ◌∷◌, Option, Some, None, inl, refl, ap, sym}
use Rattle.std.proofs.Common.{◌∙◌, subst, arith}
use Rattle.std.specs.Prelude.{slice_get}
use Rattle.term_core.specs.Tree.{Tree, Trees, var, app, none, some, tree_size}
use Rattle.term_core.specs.declared.ids.SortId.{SortId}
use Rattle.spec_core.specs.declared.records.SymInfo.{SymInfo}
use Rattle.spec_core.specs.Sorts.{Sorted, SortedAll}
use Rattle.spec_core.specs.WellSorted.{RuleIsSorted}
use Rattle.spec_core.specs.Naturals.{nat, naturals_sig, plus_zero_rule, zero_term, succ_term, plus_term}
use Rattle.spec_core.proofs.SortedNaturals.{zero_rule_is_sorted, one_bound}
use Rattle.spec_core.proofs.SmallShapes.{small_nat}
use Rattle.substitutions.specs.Substitution.{entry, image, apply, apply_all}
use Rattle.unifier.specs.Unification.{IsUnifier, IsMostGeneral, KeepsSorts, HaveNoUnifier}
use Rattle.overlap_check.specs.Overlaps.{MatchBoth, HaveOverlap, Overlaps, IsFirstOverlap}
use Rattle.overlap_check.specs.NamedValues.{NamesOverlap}
use Rattle.overlap_check.specs.Examples.{right_zero_rule, two_zeros}
use Rattle.overlap_check.proofs.OneNaming.{one_naming}

pub overlap_of_own : HaveOverlap naturals_sig (plus_term (var 0) (var 1)) (plus_term (succ_term (var 0)) (var 1))
overlap_of_own = (
  λ e. let k : plus_term (var 0) (var 1) ≡ plus_term (succ_term (var 0)) (var 1) = e in
      let h : var 0 ≡ succ_term (var 0) = cc in cc,
  (
    some (succ_term zero_term) (some zero_term none),
    record {
      function = 4;
      info = _;
      declared = refl;
      sorted = ((_, refl, refl, ((_, refl, refl, tt), tt)), ((_, refl, refl, tt), tt));
      built = ((omega arith, ((omega arith, tt), tt)), ((omega arith, tt), tt));
      matches_left = (succ_term zero_term ∷ zero_term ∷ [], refl);
      matches_other = (zero_term ∷ zero_term ∷ [], refl);
    },
  ),
)

pub not_as_they_stand : HaveNoUnifier (plus_term (var 0) (var 1)) (plus_term (succ_term (var 0)) (var 1))
not_as_they_stand s e =
    let k : plus_term (image s 0) (image s 1) ≡ plus_term (succ_term (image s 0)) (image s 1) = e in
    let h : image s 0 ≡ succ_term (image s 0) = cc in
    omega (arith, ap (λ t. tree_size t) h)

-- The values named for plus(zero, y) and plus(x, zero).

abbrev unifier : List (Option Tree)
unifier = Some zero_term ∷ Some zero_term ∷ []

module _ (t : List (Option Tree)) (zeros : (image t 0 ≡ zero_term) × (image t 1 ≡ zero_term)) where
  mutual
    -- a substitution that makes both variables zero is the unifier followed by itself
    followed : (x : Tree) → apply t x ≡ apply t (apply unifier x)
    followed (var zero) = zeros.0
    followed (var (suc zero)) = zeros.1
    followed (var (suc (suc n))) = refl
    followed (app f ts) = ap (λ us. app f us) (all_followed ts)

    all_followed : (ts : Trees) → apply_all t ts ≡ apply_all t (apply_all unifier ts)
    all_followed none = refl
    all_followed (some x xs) =
        let p : apply t x ≡ apply t (apply unifier x) = followed x in
        let q : apply_all t xs ≡ apply_all t (apply_all unifier xs) = all_followed xs in
        cc

general : IsMostGeneral (plus_term zero_term (var 0)) (plus_term (var 1) zero_term) unifier
general = record { unifies = refl; general = λ t e. (t, followed t (zeros t e)) }
  where
    zeros : (t : List (Option Tree)) → IsUnifier (plus_term zero_term (var 0)) (plus_term (var 1) zero_term) t →
        (image t 0 ≡ zero_term) × (image t 1 ≡ zero_term)
    zeros t e =
        let k : plus_term zero_term (image t 0) ≡ plus_term (image t 1) zero_term = e in
        let a : image t 0 ≡ zero_term = cc in
        let b : image t 1 ≡ zero_term = cc in
        (a, b)

keeps : KeepsSorts (plus_term zero_term (var 0)) (plus_term (var 1) zero_term) unifier
keeps sig ctx sort p q n t e =
    let infos : Some p.0 ≡ Some q.0 = sym p.1 ∙ q.1 in
    let same : q.0 ≡ p.0 = cc in
    by p.0.args p.3 (subst (λ (i : SymInfo). SortedAll sig ctx (some (var 1) (some zero_term none)) i.args) same
    q.3) n e
  where
    made : (n : ℕ) → n < 2 → entry unifier n ≡ Some t → zero_term ≡ t
    made zero h e = let k : Some zero_term ≡ Some t = e in cc
    made (suc zero) h e = let k : Some zero_term ≡ Some t = e in cc
    made (suc (suc n)) h e = absurd (omega arith)

    by : (ss : List SortId) → SortedAll sig ctx (some zero_term (some (var 0) none)) ss →
        SortedAll sig ctx (some (var 1) (some zero_term none)) ss → (n : ℕ) → entry unifier n ≡ Some t →
        (r : SortId) × (slice_get ctx n ≡ Some r) × Sorted sig ctx t r
    by [] a b n e = absurd a
    by (r ∷ []) a b n e = absurd a.1
    by (r ∷ s ∷ ss) a b zero e = (s, a.1.0, subst (λ x. Sorted sig ctx x s) (made 0 (omega arith) e) b.1.0)
    by (r ∷ s ∷ ss) a b (suc zero) e = (r, b.0, subst (λ x. Sorted sig ctx x r) (made 1 (omega arith) e) a.0)
    by (r ∷ s ∷ ss) a b (suc (suc n)) e = absurd (let k : None ≡ Some t = e in cc)

pub named : NamesOverlap naturals_sig plus_zero_rule right_zero_rule (some zero_term (some zero_term none))
named = record {
  unifier = unifier;
  most_general = general;
  keeps_sorts = keeps;
  smalls = zero_term ∷ zero_term ∷ [];
  are_small = (small_nat, (small_nat, tt));
  function = 4;
  call = refl;
}

right_zero_is_sorted : RuleIsSorted naturals_sig right_zero_rule
right_zero_is_sorted = record {
  left = search rules;
  sides = (nat, (_, refl, refl, (refl, ((_, refl, refl, tt), tt))), refl);
  guards = tt;
  numbered = search rules;
  bound = one_bound right_zero_rule.left (inl refl);
  few_variables = omega arith;
  shallow_left = search rules;
  shallow_right = search rules;
  shallow_guards = tt;
}

pub not_others : NamesOverlap naturals_sig plus_zero_rule right_zero_rule
    (some zero_term (some (succ_term zero_term) none)) → ⊥
not_others n =
    let e : some zero_term (some zero_term none) ≡ some zero_term (some (succ_term zero_term) none) = one_naming
    naturals_sig plus_zero_rule right_zero_rule _ _ zero_rule_is_sorted right_zero_is_sorted named n in
    let k : ◌≡◌ {A = ℕ} 2 3 = cc in
    omega arith

pub zeros_match : MatchBoth naturals_sig plus_zero_rule.left right_zero_rule.left (some zero_term (some zero_term none))
zeros_match = record {
  function = 4;
  info = _;
  declared = refl;
  sorted = ((_, refl, refl, tt), ((_, refl, refl, tt), tt));
  built = ((omega arith, tt), ((omega arith, tt), tt));
  matches_left = (zero_term ∷ [], refl);
  matches_other = (zero_term ∷ [], refl);
}

zeros_overlap : Overlaps two_zeros 0 1
zeros_overlap = (
  plus_zero_rule,
  right_zero_rule,
  refl,
  refl,
  (
    λ e. let k : plus_term zero_term (var 0) ≡ plus_term (var 0) zero_term = e in
        let h : zero_term ≡ var 0 = cc in cc,
    (_, zeros_match),
  ),
)

pub first_overlap : IsFirstOverlap two_zeros 0 1
first_overlap = record {
  overlaps = zeros_overlap;
  ordered = omega arith;
  none_before = λ a b h k o. omega
      arith;
  none_between = λ b h k o. omega arith;
}

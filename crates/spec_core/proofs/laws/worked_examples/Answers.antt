use Rattle.std.proofs.Common.{◌≡◌, ◌≢◌, ℕ, zero, suc, List, [], ◌∷◌, Some, None, ◌⊎◌, inl, inr, refl, ap, sym, ◌∙◌}
use Rattle.std.proofs.Common.{arith, ◌<◌}
use Rattle.std.specs.Fmt.{decimal}
use Rattle.std.proofs.lemmas.Fmt.{decimal_digit}
use Rattle.term_core.specs.Tree.{Tree, Trees, var, app, none, some, instance}
use Rattle.term_core.specs.declared.ids.SortId.{SortId}
use Rattle.spec_core.specs.declared.records.SymInfo.{SymInfo}
use Rattle.spec_core.specs.Sorts.{Sorted, IsBuilt}
use Rattle.spec_core.specs.Declarations.{bool_sort}
use Rattle.term_core.specs.Variables.{Numbered}
use Rattle.spec_core.specs.Overlap.{NoOverlap}
use Rattle.spec_core.specs.declared.records.Rule.{Rule}
use Rattle.spec_core.specs.Gives.{Gives, built, called, no_terms, more_terms, no_guards}
use Rattle.spec_core.specs.Groups.{alone, split}
use Rattle.spec_core.specs.Naturals.{nat, naturals_sig, naturals, overlapping, plus_zero_rule, plus_succ_rule}
use Rattle.spec_core.specs.Naturals.{plus_any_rule, zero_term, succ_term, plus_term}
use Rattle.spec_core.proofs.Decimals.{decimal_step}
use Rattle.spec_core.proofs.SortedNaturals.{declared, not_declared, nat_has_a_small_value, no_small_value}
use Rattle.spec_core.proofs.SortedNaturals.{zero_rule_is_sorted, succ_rule_is_sorted, loose_rule_is_not}
use Rattle.spec_core.proofs.SortedNaturals.{same_goal_is_sorted, mixed_goal_is_not, well_sorted, not_well_sorted}
use Rattle.spec_core.proofs.Covered.{linear, not_linear, covering, not_covering}
use Rattle.spec_core.proofs.SmallShapes.{no_small_wide_value, small_nat, small_tree, small_color}
use Rattle.spec_core.proofs.laws.worked_examples.Goals as goal

zero_built : IsBuilt naturals_sig zero_term
zero_built = (omega arith, tt)

one_built : IsBuilt naturals_sig (succ_term zero_term)
one_built = (omega arith, (zero_built, tt))

zero_gives : Gives naturals zero_term zero_term 0
zero_gives = built (omega arith) no_terms

one_gives : Gives naturals (succ_term zero_term) (succ_term zero_term) 0
one_gives = built (omega arith) (more_terms zero_gives no_terms refl)

-- plus(zero, v) gives the value v by one rule use
zero_plus : (v : Tree) → IsBuilt naturals_sig v → Gives naturals v v 0 → Gives naturals (plus_term zero_term v) v 1
zero_plus v b g = called 0 plus_zero_rule (v ∷ []) (more_terms zero_gives (more_terms g no_terms refl) refl)
    refl (b, tt) refl no_guards g refl

one_plus_zero : Gives naturals (plus_term (succ_term zero_term) zero_term) (succ_term zero_term) 2
one_plus_zero =
    called 1 plus_succ_rule (zero_term ∷ zero_term ∷ [])
    (more_terms one_gives (more_terms zero_gives no_terms refl) refl) refl (zero_built, (zero_built, tt))
    refl no_guards (built (omega arith) (more_terms (zero_plus zero_term zero_built zero_gives) no_terms refl)) refl

one_is_not_zero : succ_term zero_term ≢ zero_term
one_is_not_zero e = let k : ◌≡◌ {A = ℕ} 3 2 = cc in omega arith

zero_is_no_boolean : Sorted naturals_sig [] zero_term bool_sort → ⊥
zero_is_no_boolean p =
    let e : ◌≡◌ {A = SymInfo} (record { args = []; result = nat }) p.0 = let q : Some
    (record { args = []; result = nat }) ≡ Some p.0 = p.1 in cc in
    let k : ◌≡◌ {A = ℕ} 1 0 = ap (λ (i : SymInfo). i.result.0) e ∙ ap (λ (s : SortId). s.0) p.2 in
    omega arith

not_numbered : Numbered 0 (plus_term (var 1) (var 0)) 2 → ⊥
not_numbered p = by p.1
  where
    by : {A B : Type 0} → ((1 < 0) × A) ⊎ ((◌≡◌ {A = ℕ} 1 0) × B) → ⊥
    by (inl h) = omega arith
    by (inr h) = omega arith

same_left : {A : Rule} (r q : Rule) → Some A ≡ Some r → Some A ≡ Some q → r.left ≡ q.left
same_left r q a b = let e : Some r ≡ Some q = sym a ∙ b in let k : r ≡ q = cc in ap (λ (x : Rule). x.left) k

-- plus(zero, y) and plus(succ(x), y) have no common instance
zero_and_succ : (r q : Rule) (xs ys : List Tree) (f : ℕ) (vs : Trees) → Some plus_zero_rule ≡ Some r →
    Some plus_succ_rule ≡ Some q → instance xs r.left ≡ app f vs → instance ys q.left ≡ app f vs → ⊥
zero_and_succ r q xs ys f vs a b p s =
    let one : plus_zero_rule ≡ r = cc in
    let other : plus_succ_rule ≡ q = cc in
    let both : instance xs plus_zero_rule.left ≡ instance ys plus_succ_rule.left = ap
    (λ (x : Rule). instance xs x.left) one ∙ p ∙ sym s ∙ sym (ap (λ (x : Rule). instance ys x.left) other) in
    let trees : app 4 (some zero_term (some (instance xs (var 0)) none)) ≡ app 4
    (some (succ_term (instance ys (var 0))) (some (instance ys (var 1)) none)) = both in
    let k : ◌≡◌ {A = ℕ} 2 3 = cc in
    omega arith

apart : NoOverlap naturals
apart zero zero r q f i vs xs ys a b info sorted made p s = same_left r q a b
apart zero (suc zero) r q f i vs xs ys a b info sorted made p s = absurd (zero_and_succ r q xs ys f vs a b p s)
apart (suc zero) zero r q f i vs xs ys a b info sorted made p s = absurd (zero_and_succ q r ys xs f vs b a s p)
apart (suc zero) (suc zero) r q f i vs xs ys a b info sorted made p s = same_left r q a b
apart zero (suc (suc k)) r q f i vs xs ys a b info sorted made p s = absurd (let e : None ≡ Some q = b in cc)
apart (suc zero) (suc (suc k)) r q f i vs xs ys a b info sorted made p s = absurd (let e : None ≡ Some q = b in cc)
apart (suc (suc j)) k r q f i vs xs ys a b info sorted made p s = absurd (let e : None ≡ Some r = a in cc)

not_apart : NoOverlap overlapping → ⊥
not_apart h =
    let e : plus_term zero_term (var 0) ≡ plus_term (var 0) (var 1) = h 0 1 plus_zero_rule plus_any_rule 4 _
    (some zero_term (some zero_term none)) (zero_term ∷ []) (zero_term ∷ zero_term ∷ []) refl refl refl
    ((_, refl, refl, tt), ((_, refl, refl, tt), tt)) (zero_built, (zero_built, tt)) refl refl in
    let k : app 2 none ≡ var 0 = cc in
    cc

pub returns : goal.returns
returns c = record {
  one_is_a_value = ((_, refl, refl, ((_, refl, refl, tt), tt)), one_built);
  open_sum_is_sorted = (_, refl, refl, (refl, ((_, refl, refl, tt), tt)));
  zero_is_no_boolean = zero_is_no_boolean;
  numbered = (1, inr (refl, refl), (2, inr (refl, refl), refl));
  not_numbered = not_numbered;
  declared = declared;
  not_declared = not_declared;
  nat_has_a_small_value = nat_has_a_small_value;
  no_small_value = no_small_value;
  no_small_wide_value = no_small_wide_value;
  small_nat = small_nat;
  small_tree = small_tree;
  small_color = small_color;
  last_small = refl;
  first_large = refl;
  zero_rule_is_sorted = zero_rule_is_sorted;
  succ_rule_is_sorted = succ_rule_is_sorted;
  loose_rule_is_not = loose_rule_is_not;
  same_goal_is_sorted = same_goal_is_sorted;
  mixed_goal_is_not = mixed_goal_is_not;
  well_sorted = well_sorted;
  not_well_sorted = not_well_sorted;
  one_plus_zero = one_plus_zero;
  zero_gives_itself = zero_gives;
  same_fails = (
    tt,
    (
      (
        _,
        _,
        _,
        _,
        one_is_not_zero,
        zero_plus (succ_term zero_term) one_built one_gives,
        zero_plus zero_term zero_built zero_gives,
      ),
      tt,
    ),
  );
  same_holds = λ _. inl (_, _, _, zero_plus zero_term zero_built zero_gives, zero_plus zero_term zero_built zero_gives);
  verdict_fails = inr (inr (
    (
      _,
      _,
      one_is_not_zero,
      (1, zero_plus (succ_term zero_term) one_built one_gives, omega arith),
      (1, zero_plus zero_term zero_built zero_gives, omega arith),
    ),
    refl,
  ));
  verdict_holds = inr (inl (
    (
      _,
      (1, zero_plus zero_term zero_built zero_gives, omega arith),
      (1, zero_plus zero_term zero_built zero_gives, omega arith),
    ),
    refl,
  ));
  unguarded = alone;
  guarded = λ test. split test (refl, (refl, tt)) alone alone;
  apart = apart;
  not_apart = not_apart;
  linear = linear;
  not_linear = not_linear;
  covering = covering;
  not_covering = not_covering;
  three_values = refl;
  no_values = refl;
  four_substitutions = refl;
  text = let e : decimal 1 ≡ 49 ∷ [] = decimal_digit 1 (omega arith) in rw e;
  ten = rw (decimal_step 10 (omega arith) (omega arith), decimal_digit 1 (omega arith));
}

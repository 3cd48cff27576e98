-- Which rules for addition have a variable twice on the left side.
use Rattle.std.proofs.Common.{◌≡◌, ℕ, zero, suc, ◌+◌, ◌<◌, Some, None, inl, inr, refl, subst, arith}
use Rattle.std.specs.Prelude.{slice_get}
use Rattle.term_core.specs.Tree.{Tree, var}
use Rattle.spec_core.specs.declared.records.Rule.{Rule}
use Rattle.term_core.specs.Variables.{Occurs}
use Rattle.spec_core.specs.Linear.{OccursTwice, IsLinear, LeftSidesAreLinear}
use Rattle.spec_core.specs.Naturals.{naturals, plus_zero_rule, plus_succ_rule, zero_term, succ_term, plus_term}
use Rattle.overlap_check.specs.Repetition.{IsFirstRepeated}
use Rattle.overlap_check.specs.Examples.{same_rule, same_second}

twice_in_plus : (n : ℕ) (s t : Tree) → (OccursTwice n s → ⊥) → (OccursTwice n t → ⊥) →
    OccursTwice n (plus_term s t) → Occurs n s × Occurs n t
twice_in_plus n s t a b (inl h) = absurd (a h)
twice_in_plus n s t a b (inr (inl (x, inl y))) = (x, y)
twice_in_plus n s t a b (inr (inl (x, inr y))) = absurd y
twice_in_plus n s t a b (inr (inr (inl h))) = absurd (b h)
twice_in_plus n s t a b (inr (inr (inr (inl h)))) = absurd h.1
twice_in_plus n s t a b (inr (inr (inr (inr h)))) = absurd h

zero_is_linear : IsLinear plus_zero_rule.left
zero_is_linear n h = (twice_in_plus n zero_term (var 0) (λ x. x) (λ x. x) h).0

none_in_succ : (n m : ℕ) → OccursTwice n (succ_term (var m)) → ⊥
none_in_succ n m (inl h) = h
none_in_succ n m (inr (inl h)) = h.1
none_in_succ n m (inr (inr h)) = h

in_succ : (n m : ℕ) → Occurs n (succ_term (var m)) → n ≡ m
in_succ n m (inl h) = h
in_succ n m (inr h) = absurd h

succ_is_linear : IsLinear plus_succ_rule.left
succ_is_linear n h =
    let both = twice_in_plus n (succ_term (var 0)) (var 1) (none_in_succ n 0) (λ x. x) h in
    let one : n ≡ 0 = in_succ n 0 both.0 in
    let two : n ≡ 1 = both.1 in
    omega arith

pub naturals_are_linear : LeftSidesAreLinear naturals
naturals_are_linear zero rule at =
    let q : Some plus_zero_rule ≡ Some rule = at in
    let k : plus_zero_rule ≡ rule = cc in
    subst (λ (r : Rule). IsLinear r.left) k zero_is_linear
naturals_are_linear (suc zero) rule at =
    let q : Some plus_succ_rule ≡ Some rule = at in
    let k : plus_succ_rule ≡ rule = cc in
    subst (λ (r : Rule). IsLinear r.left) k succ_is_linear
naturals_are_linear (suc (suc n)) rule at = absurd (let q : None ≡ Some rule = at in cc)

before_second : (k : ℕ) (earlier : Rule) → k < 1 → slice_get same_second.rules k ≡ Some earlier → IsLinear earlier.left
before_second zero earlier h at =
    let q : Some plus_zero_rule ≡ Some earlier = at in
    let e : plus_zero_rule ≡ earlier = cc in
    subst (λ (r : Rule). IsLinear r.left) e zero_is_linear
before_second (suc k) earlier h at = absurd (omega arith)

pub second_repeats : IsFirstRepeated same_second 1 0
second_repeats = record {
  rule = same_rule;
  at = refl;
  least = (
    inr (inl (refl, inl refl)),
    λ m h x. omega arith,
  );
  before = before_second;
}

pub first_repeats_not : (place : ℕ) → 1 ≡ place + 1 → IsFirstRepeated same_second place 0 → ⊥
first_repeats_not zero e h =
    let q : Some plus_zero_rule ≡ Some h.rule = h.at in
    let k : h.rule ≡ plus_zero_rule = cc in
    zero_is_linear 0 (subst (λ (r : Rule). OccursTwice 0 r.left) k h.least.0)
first_repeats_not (suc n) e h = omega arith

-- The first faults of two specifications of addition.
use Rattle.std.proofs.Common.{◌≡◌, ℕ, zero, suc, ◌<◌, List, [], ◌∷◌, Some, None, inl, inr, refl, sym, ◌∙◌, subst, arith}
use Rattle.std.specs.Prelude.{slice_get}
use Rattle.term_core.specs.Tree.{Tree, Trees, var, app, none, some, instance}
use Rattle.spec_core.specs.declared.records.Rule.{Rule}
use Rattle.spec_core.specs.Linear.{IsLinear, LeftSidesAreLinear}
use Rattle.spec_core.specs.Overlap.{NoOverlap}
use Rattle.spec_core.specs.Groups.{Whole, group, alone}
use Rattle.spec_core.specs.Covering.{IsMatched}
use Rattle.spec_core.specs.Small.{IsSmall}
use Rattle.spec_core.specs.Naturals.{nat, declares, naturals, naturals_sig, plus_succ_rule, zero_term, succ_term}
use Rattle.spec_core.specs.Naturals.{plus_term}
use Rattle.spec_core.proofs.SortedNaturals.{bool_is_not_nat}
use Rattle.sample_specs.specs.SumOrder.{AboveInSums}
use Rattle.coverage_check.specs.Named.{IsNamed, IsSettled, no_rows, first_constructor}
use Rattle.coverage_check.specs.LeftSides.{rows_of}
use Rattle.clause_core.specs.Admitted.{RuleIsOrdered}
use Rattle.spec_admit.specs.Tests.{FunctionIsCovered}
use Rattle.spec_admit.specs.FirstFault.{Tells}
use Rattle.spec_admit.specs.declared.faults.AdmitFault.TheVariants.{Order, Coverage}
use Rattle.spec_admit.specs.Examples.{growing_rule, growing, without_zero}

pub two_variables : IsLinear (plus_term (var 0) (var 1))
two_variables n (inl h) = h
two_variables n (inr (inl (e, inl f))) = omega (arith, e, f)
two_variables n (inr (inl (e, inr f))) = f
two_variables n (inr (inr (inl h))) = h
two_variables n (inr (inr (inr (inl h)))) = h.1
two_variables n (inr (inr (inr (inr h)))) = h

-- what holds of the only rule holds of each
pub only_rule : (r : Rule) (P : Rule → Type 0) → P r → (k : ℕ) (rule : Rule) → slice_get (r ∷ []) k ≡ Some rule → P rule
only_rule r P p zero rule at = let q : Some r ≡ Some rule = at in let e : r ≡ rule = cc in subst P e p
only_rule r P p (suc k) rule at = absurd (let q : None ≡ Some rule = at in cc)

-- the left side of the only rule overlaps no other
pub one_rule_apart : (r : Rule) → NoOverlap (record naturals { rules = r ∷ []; goals = [] })
one_rule_apart r j k p q f i vs xs ys a b info sorted built m n = sym
    (only_rule r (λ (x : Rule). r.left ≡ x.left) refl j p a) ∙ only_rule r (λ (x : Rule). r.left ≡ x.left) refl k q b

not_above : AboveInSums (plus_term (var 0) (var 1)) (plus_term (var 0) (succ_term (var 1))) → ⊥
not_above a = omega (arith, a (λ n. 0))

pub order : Tells AboveInSums growing (Order 1 0)
order = (only_rule growing_rule (λ r. IsLinear r.left) two_variables, inl (inl (not_above, refl)))

succ_ordered : RuleIsOrdered AboveInSums plus_succ_rule
succ_ordered = record { right = λ env. omega arith; guards = tt }

zero_is_no_succ : (xs : List Tree) → instance xs (plus_term (succ_term (var 0)) (var 1)) ≡ plus_term zero_term
    zero_term → ⊥
zero_is_no_succ xs h =
    let trees : app 4 (some (succ_term (instance xs (var 0))) (some (instance xs (var 1)) none)) ≡ app 4
    (some zero_term (some zero_term none)) = h in
    let k : ◌≡◌ {A = ℕ} 3 2 = cc in
    omega arith

not_covered : FunctionIsCovered without_zero 4 → ⊥
not_covered h = by (h (declares (nat ∷ (nat ∷ []))) (some zero_term (some zero_term none)) refl
    ((_, refl, refl, tt), ((_, refl, refl, tt), tt)) ((omega arith, tt), ((omega arith, tt), tt)))
  where
    by : IsMatched without_zero 4 (some zero_term (some zero_term none)) → ⊥
    by (k, (rule, at, (xs, m))) = only_rule plus_succ_rule
        (λ (r : Rule). instance xs r.left ≡ app 4 (some zero_term (some zero_term none)) →
        ⊥) (λ z. zero_is_no_succ xs z) k rule at m

booleans_settled : (rows : List (List Tree)) (d : ℕ) → d < 2 → IsSettled naturals_sig rows (nat ∷ (nat ∷ [])) d
booleans_settled rows zero l args vs v = absurd (bool_is_not_nat v.0.0.0 v.0.0.1 v.0.0.2)
booleans_settled rows (suc zero) l args vs v = absurd (bool_is_not_nat v.0.0.0 v.0.0.1 v.0.0.2)
booleans_settled rows (suc (suc d)) l args vs v = absurd (omega (arith, l))

named : IsSmall naturals_sig nat zero_term →
    IsNamed naturals_sig (rows_of 4 without_zero.rules) (nat ∷ (nat ∷ [])) (zero_term ∷ (zero_term ∷ []))
named small = first_constructor 2 (declares [])
    (record {
      decides = λ h. h.0;
      constructor = omega arith;
      info = refl;
      result = refl;
      before = booleans_settled (rows_of 4 without_zero.rules);
    }) refl (no_rows (small, tt))

pub coverage : LeftSidesAreLinear naturals → IsSmall naturals_sig nat zero_term →
    Tells AboveInSums without_zero (Coverage (record { 0 = 4 }) (zero_term ∷ (zero_term ∷ [])))
coverage linear small = (
  only_rule plus_succ_rule (λ (r : Rule). IsLinear r.left) (linear 1 plus_succ_rule refl),
  only_rule plus_succ_rule (λ r. RuleIsOrdered AboveInSums r) succ_ordered,
  one_rule_apart plus_succ_rule,
  only_rule plus_succ_rule (λ (r : Rule). Whole (group r.left 0 without_zero.rules)) alone,
  record { first = inl (not_covered, refl); info = declares (nat ∷ (nat ∷ [])); declared = refl; named = named small },
)

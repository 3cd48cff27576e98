-- Naturals with addition are well sorted, and what is near to them isn't.
use Rattle.std.proofs.Common.{rules, ◌≡◌, ℕ, zero, suc, ◌<◌, ◌≤◌, List, [], ◌∷◌, Some, None, inl, inr, refl, ap, sym}
use Rattle.std.proofs.Common.{◌∙◌, subst, arith, length}
use Rattle.std.specs.Prelude.{slice_get, option_map, codes}
use Rattle.std.specs.List.{AllByRecursion}
use Rattle.term_core.specs.Tree.{Tree, Trees, var, app, none, some}
use Rattle.term_core.specs.declared.ids.SortId.{SortId}
use Rattle.spec_core.specs.declared.records.SymInfo.{SymInfo}
use Rattle.spec_core.specs.declared.records.Equation.{Equation}
use Rattle.spec_core.specs.Sig.{Sig}
use Rattle.spec_core.specs.Sorts.{Sorted, SortedAll, IsBuilt}
use Rattle.spec_core.specs.Small.{HasSmallValue, AllHaveSmallValues, IsFirstWithout, sort_of_number}
use Rattle.spec_core.specs.Declarations.{AreFresh, IsDeclared, bool_symbol}
use Rattle.term_core.specs.Variables.{Occurs}
use Rattle.spec_core.specs.WellSorted.{RuleIsSorted, GoalIsSorted, GoalNamesAreDistinct, IsWellSorted, HasFewArguments}
use Rattle.spec_core.proofs.ByNumber.{is_order_by_number}
use Rattle.spec_core.specs.Naturals.{nat, declares, nat_sorts, nat_constructors, nat_function, naturals_sig}
use Rattle.spec_core.specs.Naturals.{repeated_sig, endless_sig, naturals, twice, plus_zero_rule, plus_succ_rule}
use Rattle.spec_core.specs.Naturals.{loose_rule, same_goal, unit_goal, mixed_goal, zero_term, plus_term}
use Rattle.term_core.proofs.Items.{all_at}

-- The signature.

small : AllHaveSmallValues naturals_sig
small zero h = (app 0 none, ((_, refl, refl, tt), (omega arith, tt)), omega arith)
small (suc zero) h = (zero_term, ((_, refl, refl, tt), (omega arith, tt)), omega arith)
small (suc (suc n)) h = absurd (omega arith)

pub declared : IsDeclared naturals_sig
declared = record {
  sorts = nat_sorts;
  constructors = nat_constructors;
  functions = nat_function (codes "plus");
  is = refl;
  distinct = search rules;
  constructors_in_range = search rules;
  functions_in_range = search rules;
  no_more_booleans = search rules;
  small = small;
}

pub not_declared : IsDeclared repeated_sig → ⊥
not_declared d =
    let fresh : AreFresh [] repeated_sig.table = subst (λ es. AreFresh [] es)
    (sym (ap (λ (s : Sig). s.table) d.is)) d.distinct.1 in
    fresh.1.1.1.1.0.1.1.0 refl

pub nat_has_a_small_value : HasSmallValue naturals_sig nat
nat_has_a_small_value = small 1 (omega arith)

-- what a symbol is declared with has the sort that a term of it has
result_is : (i j : SymInfo) (s : SortId) → Some j ≡ Some i → i.result ≡ s → j.result.0 ≡ s.0
result_is i j s at r =
    let e : j ≡ i = cc in
    ap (λ (x : SymInfo). x.result.0) e ∙ ap (λ (t : SortId). t.0) r

pub bool_is_not_nat : (i : SymInfo) → Some bool_symbol ≡ Some i → i.result ≡ nat → ⊥
bool_is_not_nat i at r = let k : ◌≡◌ {A = ℕ} 0 1 = result_is i bool_symbol nat at r in omega arith

succ_args : (i : SymInfo) (ts : Trees) → Some (declares (nat ∷ [])) ≡ Some i →
    SortedAll endless_sig [] ts i.args → SortedAll endless_sig [] ts (nat ∷ [])
succ_args i ts at s =
    let e : declares (nat ∷ []) ≡ i = cc in
    subst (λ (x : SymInfo). SortedAll endless_sig [] ts x.args) (sym e) s

-- no value is built of succ alone
endless : (t : Tree) → Sorted endless_sig [] t nat → IsBuilt endless_sig t → ⊥
endless (var n) s b = b
endless (app zero ts) s b = bool_is_not_nat s.0 s.1 s.2
endless (app (suc zero) ts) s b = bool_is_not_nat s.0 s.1 s.2
endless (app (suc (suc zero)) none) s b = succ_args s.0 none s.1 s.3
endless (app (suc (suc zero)) (some t ts)) s b = endless t (succ_args s.0 (some t ts) s.1 s.3).0 b.1.0
endless (app (suc (suc (suc f))) ts) s b = let k : suc (suc (suc f)) < 3 = b.0 in absurd (omega arith)

before_nat : (n : ℕ) → n < 1 → HasSmallValue endless_sig (sort_of_number n)
before_nat zero h = (app 0 none, ((_, refl, refl, tt), (omega arith, tt)), omega arith)
before_nat (suc n) h = absurd (omega arith)

pub no_small_value : IsFirstWithout endless_sig nat
no_small_value = record {
  in_range = omega arith;
  has_none = λ v. endless v.0 v.1.0 v.1.1;
  before = before_nat;
}

pub all_infos : (P : SymInfo → Type 0) (es : List (List ℕ × SymInfo)) →
    AllByRecursion (λ (e : List ℕ × SymInfo). P e.1) es → (f : ℕ) (i : SymInfo) →
    option_map (λ (e : List ℕ × SymInfo). e.1) (slice_get es f) ≡ Some i → P i
all_infos P [] h f i at = absurd (let q : None ≡ Some i = at in cc)
all_infos P (e ∷ es) h zero i at =
    let q : Some (e.1) ≡ Some i = at in
    let k : e.1 ≡ i = cc in
    subst P k h.0
all_infos P (e ∷ es) h (suc f) i at = all_infos P es h.1 f i at

few_arguments : HasFewArguments naturals_sig
few_arguments = all_infos (λ (i : SymInfo). length i.args ≤ 8) naturals_sig.table (search rules)

-- The rules.

pub one_bound : (left : Tree) → Occurs 0 left → (k : ℕ) → k < 1 → Occurs k left
one_bound left a zero h = a
one_bound left a (suc k) h = absurd (omega arith)

pub two_bound : (left : Tree) → Occurs 0 left → Occurs 1 left → (k : ℕ) → k < 2 → Occurs k left
two_bound left a b zero h = a
two_bound left a b (suc zero) h = b
two_bound left a b (suc (suc k)) h = absurd (omega arith)

pub zero_rule_is_sorted : RuleIsSorted naturals_sig plus_zero_rule
zero_rule_is_sorted = record {
  left = search rules;
  sides = (nat, (_, refl, refl, ((_, refl, refl, tt), (refl, tt))), refl);
  guards = tt;
  numbered = search rules;
  bound = one_bound plus_zero_rule.left (inr (inl refl));
  few_variables = omega arith;
  shallow_left = search rules;
  shallow_right = search rules;
  shallow_guards = tt;
}

pub succ_rule_is_sorted : RuleIsSorted naturals_sig plus_succ_rule
succ_rule_is_sorted = record {
  left = search rules;
  sides = (
    nat,
    (_, refl, refl, ((_, refl, refl, (refl, tt)), (refl, tt))),
    (_, refl, refl, ((_, refl, refl, (refl, (refl, tt))), tt)),
  );
  guards = tt;
  numbered = search rules;
  bound = two_bound plus_succ_rule.left (inl (inl refl)) (inr (inl refl));
  few_variables = omega arith;
  shallow_left = search rules;
  shallow_right = search rules;
  shallow_guards = tt;
}

no_second : Occurs 1 (plus_term zero_term (var 0)) → ⊥
no_second (inl h) = h
no_second (inr (inl h)) = let k : ◌≡◌ {A = ℕ} 1 0 = h in omega arith
no_second (inr (inr h)) = h

pub loose_rule_is_not : RuleIsSorted naturals_sig loose_rule → ⊥
loose_rule_is_not r = no_second (r.bound 1 (omega arith))

-- The goals.

abbrev OneSort : List SortId → Equation → Type 0
OneSort ctx e = (s : SortId) × Sorted naturals_sig ctx e.left s × Sorted naturals_sig ctx e.right s

pub same_goal_is_sorted : GoalIsSorted naturals_sig same_goal
same_goal_is_sorted = record {
  premises = all_at (OneSort (nat ∷ nat ∷ [])) [] tt;
  conclusions = all_at (OneSort (nat ∷ nat ∷ [])) same_goal.conclusions
      ((nat, (_, refl, refl, (refl, (refl, tt))), (_, refl, refl, (refl, (refl, tt)))), tt);
  variables = search rules;
  few_variables = omega arith;
}

unit_goal_is_sorted : GoalIsSorted naturals_sig unit_goal
unit_goal_is_sorted = record {
  premises = all_at (OneSort (nat ∷ [])) [] tt;
  conclusions = all_at (OneSort (nat ∷ [])) unit_goal.conclusions
      ((nat, (_, refl, refl, (refl, ((_, refl, refl, tt), tt))), refl), tt);
  variables = search rules;
  few_variables = omega arith;
}

pub mixed_goal_is_not : GoalIsSorted naturals_sig mixed_goal → ⊥
mixed_goal_is_not g =
    let sides = g.conclusions 0 (record { left = zero_term; right = app 0 none }) refl in
    let left : 1 ≡ sides.0.0 = result_is sides.1.0 (declares []) sides.0 sides.1.1 sides.1.2 in
    let right : 0 ≡ sides.0.0 = result_is sides.2.0 bool_symbol sides.0 sides.2.1 sides.2.2 in
    omega arith

-- The specifications.

same_unit : codes "same" ≡ codes "unit" → ⊥
same_unit = search rules

names_differ : GoalNamesAreDistinct naturals.goals
names_differ zero zero g h a b e = refl
names_differ zero (suc zero) g h a b e = absurd (same_unit (let p : Some same_goal ≡ Some g = a in
    let q : Some unit_goal ≡ Some h = b in cc))
names_differ zero (suc (suc k)) g h a b e = absurd (let q : None ≡ Some h = b in cc)
names_differ (suc zero) zero g h a b e = absurd (same_unit (let p : Some unit_goal ≡ Some g = a in
    let q : Some same_goal ≡ Some h = b in cc))
names_differ (suc zero) (suc zero) g h a b e = refl
names_differ (suc zero) (suc (suc k)) g h a b e = absurd (let q : None ≡ Some h = b in cc)
names_differ (suc (suc j)) k g h a b e = absurd (let q : None ≡ Some g = a in cc)

pub well_sorted : IsWellSorted naturals
well_sorted = record {
  order = is_order_by_number naturals_sig;
  signature = declared;
  arities = few_arguments;
  rules = all_at (RuleIsSorted naturals_sig) naturals.rules (zero_rule_is_sorted, (succ_rule_is_sorted, tt));
  goals = all_at (GoalIsSorted naturals_sig) naturals.goals (same_goal_is_sorted, (unit_goal_is_sorted, tt));
  names = names_differ;
  few_rules = search rules;
  few_goals = search rules;
}

pub not_well_sorted : IsWellSorted twice → ⊥
not_well_sorted w = let k : ◌≡◌ {A = ℕ} 0 1 = w.names 0 1 same_goal same_goal refl refl refl in omega arith

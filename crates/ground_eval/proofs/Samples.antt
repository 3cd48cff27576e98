-- The specification that the tests evaluate is well sorted.
use Rattle.std.proofs.Common.{rules, ◌≡◌, ℕ, zero, suc, ◌<◌, ◌≤◌, List, [], ◌∷◌, ◌++◌, Some, None, inl, inr, refl}
use Rattle.std.proofs.Common.{arith, length}
use Rattle.std.specs.Prelude.{slice_get, codes, replicate}
use Rattle.std.specs.List.{AllByRecursion}
use Rattle.term_core.specs.Tree.{Tree, var}
use Rattle.term_core.specs.declared.ids.SortId.{SortId}
use Rattle.spec_core.specs.declared.records.SymInfo.{SymInfo}
use Rattle.spec_core.specs.declared.records.Equation.{Equation}
use Rattle.spec_core.specs.declared.records.Guard.{Guard}
use Rattle.spec_core.specs.declared.records.Rule.{Rule}
use Rattle.spec_core.specs.Sig.{info_of}
use Rattle.spec_core.specs.Sorts.{Sorted, IsValue}
use Rattle.spec_core.specs.Small.{AllHaveSmallValues}
use Rattle.spec_core.specs.Declarations.{IsDeclared, AreDistinct, bool_sort}
use Rattle.term_core.specs.Variables.{Numbered, Occurs}
use Rattle.spec_core.specs.WellSorted.{RuleIsSorted, GoalIsSorted, GoalNamesAreDistinct, IsWellSorted, HasFewArguments}
use Rattle.spec_core.specs.WellSorted.{IsLeft, IsShallow, sorts_of}
use Rattle.ground_eval.specs.Samples.{nat, takes, variable, plus_rules, le_rules, isz_rules, pick_rules, grade_rules}
use Rattle.ground_eval.specs.Samples.{turn_rules, part_rules, sample_sorts, sample_constructors, sample_functions}
use Rattle.ground_eval.specs.Samples.{sample_sig, leaf_term, one_term, two_term, zero_term, succ_term, rule_of}
use Rattle.ground_eval.specs.Samples.{rule_on, same_goal, less_goal, sample}
use Rattle.term_core.proofs.Items.{all_at}
use Rattle.spec_core.proofs.ByNumber.{is_order_by_number}
use Rattle.spec_core.proofs.SortedNaturals.{all_infos, one_bound, two_bound}

distinct : AreDistinct sample_sorts sample_constructors sample_functions
distinct = search rules

small : AllHaveSmallValues sample_sig
small zero h = (leaf_term 0, ((_, refl, refl, tt), (omega arith, tt)), omega arith)
small (suc zero) h = (zero_term, ((_, refl, refl, tt), (omega arith, tt)), omega arith)
small (suc (suc n)) h = absurd (omega arith)

declared : IsDeclared sample_sig
declared = record {
  sorts = sample_sorts;
  constructors = sample_constructors;
  functions = sample_functions;
  is = refl;
  distinct = distinct;
  constructors_in_range = search rules;
  functions_in_range = search rules;
  no_more_booleans = search rules;
  small = small;
}

few_arguments : HasFewArguments sample_sig
few_arguments = all_infos (λ (i : SymInfo). length i.args ≤ 8) sample_sig.table (search rules)

-- the sorts of n variables
abbrev naturals : ℕ → List SortId
naturals n = replicate n nat

no_bound : (left : Tree) (k : ℕ) → k < 0 → Occurs k left
no_bound left k h = absurd (omega arith)

-- a rule with n variables that has no guards
unguarded : (n : ℕ) (left right : Tree) (s : SortId) → IsLeft sample_sig left →
    Sorted sample_sig (sorts_of (replicate n variable)) left s →
    Sorted sample_sig (sorts_of (replicate n variable)) right s →
    Numbered 0 left (length (sorts_of (replicate n variable))) →
    ((k : ℕ) → k < length (sorts_of (replicate n variable)) → Occurs k left) →
    length (replicate n variable) ≤ 16 → IsShallow left → IsShallow right →
    RuleIsSorted sample_sig (rule_of n left right [])
unguarded n left right s a l r m b few x y = record {
  left = a;
  sides = (s, l, r);
  guards = tt;
  numbered = m;
  bound = b;
  few_variables = few;
  shallow_left = x;
  shallow_right = y;
  shallow_guards = tt;
}

plus_sorted : AllByRecursion (RuleIsSorted sample_sig) plus_rules
plus_sorted =
    let zero_left = two_term 4 zero_term (var 0) in
    let succ_left = two_term 4 (succ_term (var 0)) (var 1) in (
      unguarded 1 zero_left (var 0) nat (search rules) (_, refl, refl, ((_, refl, refl, tt), (refl, tt))) refl
          (search rules) (one_bound zero_left (inr (inl refl))) (omega arith) (search rules) (search rules),
      (
        unguarded 2 succ_left _ nat (search rules) (_, refl, refl, ((_, refl, refl, (refl, tt)), (refl, tt)))
            (_, refl, refl, ((_, refl, refl, (refl, (refl, tt))), tt)) (search rules)
            (two_bound succ_left (inl (inl refl)) (inr (inl refl))) (omega arith) (search rules) (search rules),
        tt,
      ),
    )

le_sorted : AllByRecursion (RuleIsSorted sample_sig) le_rules
le_sorted =
    let zero_left = two_term 5 zero_term (var 0) in
    let more_left = two_term 5 (succ_term (var 0)) zero_term in
    let succ_left = two_term 5 (succ_term (var 0)) (succ_term (var 1)) in (
      unguarded 1 zero_left _ bool_sort (search rules) (_, refl, refl, ((_, refl, refl, tt), (refl, tt))) (
        _,
        refl,
        refl,
        tt,
      ) (search rules) (one_bound zero_left (inr (inl refl))) (omega arith) (search rules)
          (search rules),
      (
        unguarded 1 more_left _ bool_sort (search rules) (
          _,
          refl,
          refl,
          ((_, refl, refl, (refl, tt)), ((_, refl, refl, tt), tt)),
        ) (_, refl, refl, tt) (search rules)
            (one_bound more_left (inl (inl refl))) (omega arith) (search rules) (search rules),
        (
          unguarded 2 succ_left _ bool_sort (search rules) (
            _,
            refl,
            refl,
            ((_, refl, refl, (refl, tt)), ((_, refl, refl, (refl, tt)), tt)),
          ) (_, refl, refl, (refl, (refl, tt)))
              (search rules) (two_bound succ_left (inl (inl refl)) (inr (inl (inl refl)))) (omega arith)
              (search rules) (search rules),
          tt,
        ),
      ),
    )

isz_sorted : AllByRecursion (RuleIsSorted sample_sig) isz_rules
isz_sorted =
    let zero_left = one_term 6 zero_term in
    let succ_left = one_term 6 (succ_term (var 0)) in (
      unguarded 0 zero_left _ bool_sort (search rules) (_, refl, refl, ((_, refl, refl, tt), tt)) (
        _,
        refl,
        refl,
        tt,
      ) (search rules) (no_bound zero_left) (omega arith) (search rules) (search rules),
      (
        unguarded 1 succ_left _ bool_sort (search rules) (_, refl, refl, ((_, refl, refl, (refl, tt)), tt)) (
          _,
          refl,
          refl,
          tt,
        ) (search rules) (one_bound succ_left (inl (inl refl))) (omega arith) (search rules)
            (search rules),
        tt,
      ),
    )

-- a rule for the call of a function with x
on_sorted : (f : ℕ) (right : Tree) (guards : List Guard) → IsLeft sample_sig (one_term f (var 0)) →
    info_of sample_sig f ≡ Some (takes 1 nat) → Sorted sample_sig (naturals 1) right nat →
    AllByRecursion (λ (g : Guard). Sorted sample_sig (naturals 1) g.test bool_sort) guards → IsShallow right →
    AllByRecursion (λ (g : Guard). IsShallow g.test) guards → RuleIsSorted sample_sig (rule_on f right guards)
on_sorted f right guards left known sorted tests shallow few = record {
  left = left;
  sides = (nat, (_, known, refl, (refl, tt)), sorted);
  guards = tests;
  numbered = search rules;
  bound = one_bound (one_term f (var 0)) (inl refl);
  few_variables = omega arith;
  shallow_left = search rules;
  shallow_right = shallow;
  shallow_guards = few;
}

zero_sorted : Sorted sample_sig (naturals 1) (one_term 6 (var 0)) bool_sort
zero_sorted = (_, refl, refl, (refl, tt))

small_sorted : Sorted sample_sig (naturals 1) (two_term 5 (var 0) (succ_term zero_term)) bool_sort
small_sorted = (_, refl, refl, (refl, ((_, refl, refl, ((_, refl, refl, tt), tt)), tt)))

succ_sorted : Sorted sample_sig (naturals 1) (succ_term (var 0)) nat
succ_sorted = (_, refl, refl, (refl, tt))

pick_sorted : AllByRecursion (RuleIsSorted sample_sig) pick_rules
pick_sorted = (
  on_sorted 7 _ _ (search rules) refl succ_sorted (zero_sorted, tt) (search rules) (search rules),
  (on_sorted 7 _ _ (search rules) refl refl (zero_sorted, tt) (search rules) (search rules), tt),
)

grade_sorted : AllByRecursion (RuleIsSorted sample_sig) grade_rules
grade_sorted = (
  on_sorted 8 _ _ (search rules) refl (_, refl, refl, tt) (small_sorted, (zero_sorted, tt))
      (search rules) (search rules),
  (
    on_sorted 8 _ _ (search rules) refl succ_sorted (small_sorted, (zero_sorted, tt)) (search rules)
        (search rules),
    (on_sorted 8 _ _ (search rules) refl refl (small_sorted, tt) (search rules) (search rules), tt),
  ),
)

turn_sorted : AllByRecursion (RuleIsSorted sample_sig) turn_rules
turn_sorted = (
  on_sorted 9 _ _ (search rules) refl (_, refl, refl, (refl, (refl, tt))) (
    small_sorted,
    tt,
  ) (search rules) (search rules),
  (
    on_sorted 9 _ _ (search rules) refl (_, refl, refl, tt) (small_sorted, (zero_sorted, tt)) (search rules)
        (search rules),
    (
      on_sorted 9 _ _ (search rules) refl succ_sorted (small_sorted, (zero_sorted, tt))
          (search rules) (search rules),
      tt,
    ),
  ),
)

part_sorted : AllByRecursion (RuleIsSorted sample_sig) part_rules
part_sorted = (
  on_sorted 10 _ _ (search rules) refl succ_sorted (zero_sorted, tt) (search rules) (search rules),
  (on_sorted 10 _ _ (search rules) refl refl (zero_sorted, (small_sorted, tt)) (search rules) (search rules), tt),
)

-- sorted rules before sorted rules
both_sorted : (rs qs : List Rule) → AllByRecursion (RuleIsSorted sample_sig) rs →
    AllByRecursion (RuleIsSorted sample_sig) qs → AllByRecursion (RuleIsSorted sample_sig) (rs ++ qs)
both_sorted [] qs a b = b
both_sorted (r ∷ rs) qs a b = (a.0, both_sorted rs qs a.1 b)

guarded_sorted : AllByRecursion (RuleIsSorted sample_sig) (pick_rules ++ grade_rules ++ (turn_rules ++ part_rules))
guarded_sorted = both_sorted (pick_rules ++ grade_rules) (turn_rules ++ part_rules)
    (both_sorted pick_rules grade_rules pick_sorted grade_sorted)
    (both_sorted turn_rules part_rules turn_sorted part_sorted)

rules_sorted : AllByRecursion (RuleIsSorted sample_sig) sample.rules
rules_sorted = both_sorted (plus_rules ++ le_rules ++ isz_rules) (pick_rules ++ grade_rules
    ++ (turn_rules ++ part_rules))
    (both_sorted (plus_rules ++ le_rules) isz_rules (both_sorted plus_rules le_rules plus_sorted le_sorted)
    isz_sorted) guarded_sorted

abbrev OneSort : Equation → Type 0
OneSort e = (s : SortId) × Sorted sample_sig (naturals 2) e.left s × Sorted sample_sig (naturals 2) e.right s

sum_sorted : (m n : ℕ) → slice_get (naturals 2) m ≡ Some nat → slice_get (naturals 2) n ≡ Some nat →
    Sorted sample_sig (naturals 2) (two_term 4 (var m) (var n)) nat
sum_sorted m n a b = (_, refl, refl, (a, (b, tt)))

same_sorted : GoalIsSorted sample_sig same_goal
same_sorted = record {
  premises = all_at OneSort [] tt;
  conclusions = all_at OneSort same_goal.conclusions ((nat, sum_sorted 0 1 refl refl, sum_sorted 0 0 refl refl), tt);
  variables = search rules;
  few_variables = omega arith;
}

less_sorted : GoalIsSorted sample_sig less_goal
less_sorted = record {
  premises = all_at OneSort less_goal.premises (
    (
      bool_sort,
      (_, refl, refl, (refl, (refl, tt))),
      (_, refl, refl, tt),
    ),
    tt,
  );
  conclusions = all_at OneSort less_goal.conclusions ((nat, sum_sorted 0 1 refl refl, refl), tt);
  variables = search rules;
  few_variables = omega arith;
}

same_less : codes "same" ≡ codes "less" → ⊥
same_less = search rules

names_differ : GoalNamesAreDistinct sample.goals
names_differ zero zero g h a b e = refl
names_differ zero (suc zero) g h a b e = absurd (same_less (let p : Some same_goal ≡ Some g = a in
    let q : Some less_goal ≡ Some h = b in cc))
names_differ zero (suc (suc k)) g h a b e = absurd (let q : None ≡ Some h = b in cc)
names_differ (suc zero) zero g h a b e = absurd (same_less (let p : Some less_goal ≡ Some g = a in
    let q : Some same_goal ≡ Some h = b in cc))
names_differ (suc zero) (suc zero) g h a b e = refl
names_differ (suc zero) (suc (suc k)) g h a b e = absurd (let q : None ≡ Some h = b in cc)
names_differ (suc (suc j)) k g h a b e = absurd (let q : None ≡ Some g = a in cc)

pub well_sorted : IsWellSorted sample
well_sorted = record {
  order = is_order_by_number sample_sig;
  signature = declared;
  arities = few_arguments;
  rules = all_at (RuleIsSorted sample_sig) sample.rules rules_sorted;
  goals = all_at (GoalIsSorted sample_sig) sample.goals (same_sorted, (less_sorted, tt));
  names = names_differ;
  few_rules = search rules;
  few_goals = search rules;
}

pub zero_value : IsValue sample_sig nat zero_term
zero_value = ((_, refl, refl, tt), (omega arith, tt))

pub succ_value : (t : Tree) → IsValue sample_sig nat t → IsValue sample_sig nat (succ_term t)
succ_value t v = ((_, refl, refl, (v.0, tt)), (omega arith, (v.1, tt)))

pub call_sorted : (s t : Tree) → IsValue sample_sig nat s → IsValue sample_sig nat t →
    Sorted sample_sig [] (two_term 4 s t) nat
call_sorted s t a b = (_, refl, refl, (a.0, (b.0, tt)))

pub one_sorted : (f : ℕ) (t : Tree) → info_of sample_sig f ≡ Some (takes 1 nat) → IsValue sample_sig nat t →
    Sorted sample_sig [] (one_term f t) nat
one_sorted f t known a = (_, known, refl, (a.0, tt))

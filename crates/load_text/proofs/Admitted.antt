-- The generated specification is admitted: whatever its goals are, its five rules are linear, fall
-- in the path ordering, match no values together, and match all values.
use Rattle.std.proofs.Common.{◌≡◌, ◌⊎◌, ℕ, zero, suc, ◌<◌, List, [], ◌∷◌, Some, None, inl, inr, refl, ap, sym, ◌∙◌}
use Rattle.std.proofs.Common.{subst, arith}
use Rattle.std.specs.Prelude.{slice_get}
use Rattle.term_core.specs.Tree.{Tree, Trees, var, app, none, some, instance}
use Rattle.spec_core.specs.declared.records.SymInfo.{SymInfo}
use Rattle.spec_core.specs.declared.records.Rule.{Rule}
use Rattle.spec_core.specs.Sorts.{Sorted, SortedAll, IsBuilt, AreBuilt}
use Rattle.spec_core.specs.Linear.{IsLinear, LeftSidesAreLinear}
use Rattle.spec_core.specs.Covering.{IsMatched, IsCovering}
use Rattle.spec_core.specs.Groups.{Whole, GroupsAreWhole, group, alone}
use Rattle.spec_core.specs.Overlap.{NoOverlap}
use Rattle.spec_core.specs.Naturals.{nat, declares, zero_term, succ_term, plus_zero_rule, plus_succ_rule}
use Rattle.spec_core.proofs.SortedNaturals.{bool_is_not_nat}
use Rattle.term_core.specs.Precedence.{by_number}
use Rattle.path_order.specs.Above.{Above, by_argument, by_head, by_arguments, this_is, this_above, later, all_none}
use Rattle.path_order.specs.Above.{all_some, here}
use Rattle.clause_core.specs.Admitted.{RuleIsOrdered, RulesAreOrdered, IsAdmitted}
use Rattle.spec_order.specs.Orders.{above_of}
use Rattle.spec_order.proofs.OwnOrders.{ordered_by_number}
use Rattle.load_text.specs.LoadSpec.{le_info, load_sig, le_zero_rule, le_succ_zero_rule, le_succ_rule, load_spec_rules}
use Rattle.load_text.specs.LoadSpec.{load_spec}

-- what is so of each of the rules is so of the rule of each number
each_rule : (P : Rule → Type 0) → P plus_zero_rule → P plus_succ_rule → P le_zero_rule →
    P le_succ_zero_rule → P le_succ_rule → (k : ℕ) (rule : Rule) →
    slice_get load_spec_rules k ≡ Some rule → P rule
each_rule P a b c d e zero rule at =
    subst P (let q : Some plus_zero_rule ≡ Some rule = at in let p : plus_zero_rule ≡ rule = cc in
    p) a
each_rule P a b c d e (suc zero) rule at =
    subst P (let q : Some plus_succ_rule ≡ Some rule = at in let p : plus_succ_rule ≡ rule = cc in
    p) b
each_rule P a b c d e (suc (suc zero)) rule at =
    subst P (let q : Some le_zero_rule ≡ Some rule = at in let p : le_zero_rule ≡ rule = cc in p) c
each_rule P a b c d e (suc (suc (suc zero))) rule at =
    subst P (let q : Some le_succ_zero_rule ≡ Some rule = at in let p : le_succ_zero_rule ≡ rule =
    cc in p) d
each_rule P a b c d e (suc (suc (suc (suc zero)))) rule at =
    subst P (let q : Some le_succ_rule ≡ Some rule = at in let p : le_succ_rule ≡ rule = cc in p) e
each_rule P a b c d e (suc (suc (suc (suc (suc k))))) rule at =
    absurd (let q : None ≡ Some rule = at in cc)

-- No variable occurs twice.

after_zero : IsLinear plus_zero_rule.left
after_zero n (inl p) = p
after_zero n (inr (inl p)) = p.0
after_zero n (inr (inr (inl p))) = p
after_zero n (inr (inr (inr (inl p)))) = p.1
after_zero n (inr (inr (inr (inr p)))) = p

after_succ : IsLinear plus_succ_rule.left
after_succ n (inl (inl p)) = p
after_succ n (inl (inr (inl p))) = p.1
after_succ n (inl (inr (inr p))) = p
after_succ n (inr (inl (inl p, inl q))) = omega (arith, p, q)
after_succ n (inr (inl (inl p, inr q))) = q
after_succ n (inr (inl (inr p, q))) = p
after_succ n (inr (inr (inl p))) = p
after_succ n (inr (inr (inr (inl p)))) = p.1
after_succ n (inr (inr (inr (inr p)))) = p

before_zero : IsLinear le_succ_zero_rule.left
before_zero n (inl (inl p)) = p
before_zero n (inl (inr (inl p))) = p.1
before_zero n (inl (inr (inr p))) = p
before_zero n (inr (inl (p, inl q))) = q
before_zero n (inr (inl (p, inr q))) = q
before_zero n (inr (inr (inl p))) = p
before_zero n (inr (inr (inr (inl p)))) = p.0
before_zero n (inr (inr (inr (inr p)))) = p

two_succ : IsLinear le_succ_rule.left
two_succ n (inl (inl p)) = p
two_succ n (inl (inr (inl p))) = p.1
two_succ n (inl (inr (inr p))) = p
two_succ n (inr (inl (inl p, inl (inl q)))) = omega (arith, p, q)
two_succ n (inr (inl (inl p, inl (inr q)))) = q
two_succ n (inr (inl (inl p, inr q))) = q
two_succ n (inr (inl (inr p, q))) = p
two_succ n (inr (inr (inl (inl p)))) = p
two_succ n (inr (inr (inl (inr (inl p))))) = p.1
two_succ n (inr (inr (inl (inr (inr p))))) = p
two_succ n (inr (inr (inr (inl p)))) = p.1
two_succ n (inr (inr (inr (inr p)))) = p

linear : (n : ℕ) → LeftSidesAreLinear (load_spec n)
linear n = each_rule (λ (r : Rule). IsLinear r.left)
    after_zero after_succ after_zero before_zero two_succ

-- Each left side is above its right side, by number and so by the specification's own order.

zero_falls : RuleIsOrdered (Above by_number) plus_zero_rule
zero_falls = record { right = by_argument (later this_is); guards = tt }

succ_falls : RuleIsOrdered (Above by_number) plus_succ_rule
succ_falls = record {
  right = by_head (omega arith)
      (all_some
      (by_arguments refl (here refl (by_argument this_is)
      (all_some (by_argument (later this_is)) all_none))) all_none);
  guards = tt;
}

le_zero_falls : RuleIsOrdered (Above by_number) le_zero_rule
le_zero_falls = record { right = by_head (omega arith) all_none; guards = tt }

le_succ_zero_falls : RuleIsOrdered (Above by_number) le_succ_zero_rule
le_succ_zero_falls = record { right = by_head (omega arith) all_none; guards = tt }

le_succ_falls : RuleIsOrdered (Above by_number) le_succ_rule
le_succ_falls =
    record {
      right = by_arguments refl (here refl (by_argument this_is)
          (all_some (by_argument (later (this_above (by_argument this_is)))) all_none));
      guards = tt;
    }

ordered : (n : ℕ) → RulesAreOrdered (above_of (load_spec n)) (load_spec n)
ordered n =
    ordered_by_number (load_spec n) refl
    (each_rule (RuleIsOrdered (Above by_number))
    zero_falls succ_falls le_zero_falls le_succ_zero_falls le_succ_falls)

whole : (n : ℕ) → GroupsAreWhole (load_spec n)
whole n = each_rule (λ (r : Rule). Whole (group r.left 0 load_spec_rules))
    alone alone alone alone alone

-- No values match two left sides: the function, the first value's symbol or the second's tells them
-- apart.

abbrev root : Tree → ℕ
root (var n) = 0
root (app f ts) = f

abbrev first : Trees → ℕ
first none = 0
first (some t ts) = root t

abbrev second : Trees → ℕ
second none = 0
second (some t ts) = first ts

abbrev values : Tree → Trees
values (var n) = none
values (app f ts) = ts

-- an instance of both is one of the same left side
abbrev Apart : Rule → Rule → Type 0
Apart r q = (xs ys : List Tree) → instance xs r.left ≡ instance ys q.left → r.left ≡ q.left

two_three : {P : Type 0} → ◌≡◌ {A = ℕ} 2 3 → P
two_three e = absurd (omega arith)

three_two : {P : Type 0} → ◌≡◌ {A = ℕ} 3 2 → P
three_two e = absurd (omega arith)

four_five : {P : Type 0} → ◌≡◌ {A = ℕ} 4 5 → P
four_five e = absurd (omega arith)

five_four : {P : Type 0} → ◌≡◌ {A = ℕ} 5 4 → P
five_four e = absurd (omega arith)

apart_from : (r : Rule) → Apart r plus_zero_rule → Apart r plus_succ_rule → Apart r le_zero_rule →
    Apart r le_succ_zero_rule → Apart r le_succ_rule → (k : ℕ) (q : Rule) →
    slice_get load_spec_rules k ≡ Some q → Apart r q
apart_from r = each_rule (Apart r)

all_apart : (j : ℕ) (r : Rule) → slice_get load_spec_rules j ≡ Some r → (k : ℕ) (q : Rule) →
    slice_get load_spec_rules k ≡ Some q → Apart r q
all_apart = each_rule (λ (r : Rule). (k : ℕ) (q : Rule) → slice_get load_spec_rules k ≡ Some q →
    Apart r q)
    (apart_from plus_zero_rule
    (λ xs ys e. refl)
    (λ xs ys e. two_three (ap (λ (t : Tree). first (values t)) e))
    (λ xs ys e. four_five (ap (λ (t : Tree). root t) e))
    (λ xs ys e. four_five (ap (λ (t : Tree). root t) e))
    (λ xs ys e. four_five (ap (λ (t : Tree). root t) e)))
    (apart_from plus_succ_rule
    (λ xs ys e. three_two (ap (λ (t : Tree). first (values t)) e))
    (λ xs ys e. refl)
    (λ xs ys e. four_five (ap (λ (t : Tree). root t) e))
    (λ xs ys e. four_five (ap (λ (t : Tree). root t) e))
    (λ xs ys e. four_five (ap (λ (t : Tree). root t) e)))
    (apart_from le_zero_rule
    (λ xs ys e. five_four (ap (λ (t : Tree). root t) e))
    (λ xs ys e. five_four (ap (λ (t : Tree). root t) e))
    (λ xs ys e. refl)
    (λ xs ys e. two_three (ap (λ (t : Tree). first (values t)) e))
    (λ xs ys e. two_three (ap (λ (t : Tree). first (values t)) e)))
    (apart_from le_succ_zero_rule
    (λ xs ys e. five_four (ap (λ (t : Tree). root t) e))
    (λ xs ys e. five_four (ap (λ (t : Tree). root t) e))
    (λ xs ys e. three_two (ap (λ (t : Tree). first (values t)) e))
    (λ xs ys e. refl)
    (λ xs ys e. two_three (ap (λ (t : Tree). second (values t)) e)))
    (apart_from le_succ_rule
    (λ xs ys e. five_four (ap (λ (t : Tree). root t) e))
    (λ xs ys e. five_four (ap (λ (t : Tree). root t) e))
    (λ xs ys e. three_two (ap (λ (t : Tree). first (values t)) e))
    (λ xs ys e. three_two (ap (λ (t : Tree). second (values t)) e))
    (λ xs ys e. refl))

apart : (n : ℕ) → NoOverlap (load_spec n)
apart n j k r q f i vs xs ys at_r at_q info sorted built e h =
    all_apart j r at_r k q at_q xs ys (let p : instance ys q.left ≡ app f vs = h in e ∙ sym p)

-- All values match a left side.

arguments : (i j : SymInfo) (ts : Trees) → Some j ≡ Some i → SortedAll load_sig [] ts i.args →
    SortedAll load_sig [] ts j.args
arguments i j ts at s = let e : i ≡ j = cc in
    subst (λ (x : SymInfo). SortedAll load_sig [] ts x.args) e s

-- a natural is zero or a successor
is_natural : (t : Tree) → Sorted load_sig [] t nat → IsBuilt load_sig t →
    (t ≡ zero_term) ⊎ ((u : Tree) × (t ≡ succ_term u))
is_natural (var n) s b = absurd b
is_natural (app zero ts) s b = absurd (bool_is_not_nat s.0 s.1 s.2)
is_natural (app (suc zero) ts) s b = absurd (bool_is_not_nat s.0 s.1 s.2)
is_natural (app (suc (suc zero)) none) s b = inl refl
is_natural (app (suc (suc zero)) (some t ts)) s b =
    absurd (arguments s.0 (declares []) (some t ts) s.1 s.3)
is_natural (app (suc (suc (suc zero))) none) s b =
    absurd (arguments s.0 (declares (nat ∷ [])) none s.1 s.3)
is_natural (app (suc (suc (suc zero))) (some t none)) s b = inr (t, refl)
is_natural (app (suc (suc (suc zero))) (some t (some u us))) s b =
    absurd (arguments s.0 (declares (nat ∷ [])) (some t (some u us)) s.1 s.3).1
is_natural (app (suc (suc (suc (suc f)))) ts) s b = let k : suc (suc (suc (suc f))) < 4 = b.0 in
    absurd (omega arith)

module _ (n : ℕ) where
  abbrev Matched : ℕ → Tree → Tree → Type 0
  Matched f s t = IsMatched (load_spec n) f (some s (some t none))

  sum_matched : (s t : Tree) → (s ≡ zero_term) ⊎ ((u : Tree) × (s ≡ succ_term u)) → Matched 4 s t
  sum_matched s t (inl e) = subst (λ (x : Tree). Matched 4 x t) (sym e)
      (0, (plus_zero_rule, refl, (t ∷ [], refl)))
  sum_matched s t (inr (u, e)) = subst (λ (x : Tree). Matched 4 x t) (sym e)
      (1, (plus_succ_rule, refl, (u ∷ t ∷ [], refl)))

  order_matched : (s t : Tree) → (s ≡ zero_term) ⊎ ((u : Tree) × (s ≡ succ_term u)) →
      (t ≡ zero_term) ⊎ ((u : Tree) × (t ≡ succ_term u)) → Matched 5 s t
  order_matched s t (inl e) h = subst (λ (x : Tree). Matched 5 x t) (sym e)
      (2, (le_zero_rule, refl, (t ∷ [], refl)))
  order_matched s t (inr (u, e)) (inl p) =
      subst (λ (x : Tree). Matched 5 x t) (sym e)
      (subst (λ (x : Tree). Matched 5 (succ_term u) x) (sym p)
      (3, (le_succ_zero_rule, refl, (u ∷ [], refl))))
  order_matched s t (inr (u, e)) (inr (v, p)) =
      subst (λ (x : Tree). Matched 5 x t) (sym e)
      (subst (λ (x : Tree). Matched 5 (succ_term u) x) (sym p)
      (4, (le_succ_rule, refl, (u ∷ v ∷ [], refl))))

  two_matched : (f : ℕ) (vs : Trees) →
      ((s t : Tree) → (s ≡ zero_term) ⊎ ((u : Tree) × (s ≡ succ_term u)) →
      (t ≡ zero_term) ⊎ ((u : Tree) × (t ≡ succ_term u)) → Matched f s t) →
      SortedAll load_sig [] vs (nat ∷ nat ∷ []) → AreBuilt load_sig vs →
      IsMatched (load_spec n) f vs
  two_matched f none by s b = absurd s
  two_matched f (some t none) by s b = absurd s.1
  two_matched f (some t (some u none)) by s b =
      by t u (is_natural t s.0 b.0) (is_natural u s.1.0 b.1.0)
  two_matched f (some t (some u (some v vs))) by s b = absurd s.1.1

  covering : IsCovering (load_spec n)
  covering zero i vs at free s b = absurd (free (omega arith))
  covering (suc zero) i vs at free s b = absurd (free (omega arith))
  covering (suc (suc zero)) i vs at free s b = absurd (free (omega arith))
  covering (suc (suc (suc zero))) i vs at free s b = absurd (free (omega arith))
  covering (suc (suc (suc (suc zero)))) i vs at free s b =
      two_matched 4 vs (λ t u h k. sum_matched t u h)
      (arguments i (declares (nat ∷ nat ∷ [])) vs at s) b
  covering (suc (suc (suc (suc (suc zero))))) i vs at free s b =
      two_matched 5 vs order_matched (arguments i le_info vs at s) b
  covering (suc (suc (suc (suc (suc (suc f)))))) i vs at free s b =
      absurd (let e : None ≡ Some i = at in cc)

pub load_admitted : (n : ℕ) → IsAdmitted (above_of (load_spec n)) (load_spec n)
load_admitted n = record {
  linear = linear n;
  ordered = ordered n;
  apart = apart n;
  whole =
      whole n;
  covering = covering n;
}

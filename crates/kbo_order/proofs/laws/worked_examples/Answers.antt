use Rattle.std.proofs.Common.{◌≡◌, ℕ, List, [], refl, ap, inl, inr, arith}
use Rattle.term_core.specs.Tree.{Tree, var, app}
use Rattle.kbo_order.specs.Above.{by_weight, by_head, by_arguments, here}
use Rattle.kbo_order.specs.Weights.{symbol_weight, weight_of}
use Rattle.kbo_order.specs.SumLaws.{weight-positive}
use Rattle.kbo_order.specs.Roots.{cases-of, cover-of, first-cases}
use Rattle.kbo_order.specs.KboLaws.{weighs-something}
use Rattle.kbo_order.specs.Examples.{AboveBy, AboveByOnes, zero_term, plus_term, mult_term, inv_term, x, y, z}
use Rattle.kbo_order.proofs.laws.worked_examples.Goals as goal

abbrev number : Tree → ℕ
number (var n) = n
number (app f ts) = 0

-- a variable is above nothing by ones
variable_above : (n : ℕ) (s : Tree) → AboveByOnes (var n) s → ⊥
variable_above n s p =
    let some = weight-positive (symbol_weight []) (weighs-something []) s in
    elim (cases-of p) [ inl l ↦ omega (arith, l, some) | inr r ↦ r.1 ]

-- a variable before a term is above nothing of the same weight that has another first argument
first_stays :
    (n : ℕ) (t a s : Tree) → (var n ≡ a → ⊥) →
    weight_of (symbol_weight []) (plus_term (var n) t) ≡ weight_of (symbol_weight []) (plus_term a s) →
    AboveByOnes (plus_term (var n) t) (plus_term a s) → ⊥
first_stays n t a s other same p =
    elim (cases-of p) [
      | inl l ↦ omega (arith, l, same)
      | inr r ↦ elim r.1 [
        | inl l ↦ omega (arith, l)
        | inr h ↦ elim (first-cases h.1) [ inl q ↦ variable_above n a q.1 | inr q ↦ other q.0 ]
      ]
    ]

not_inverse :
    (weights : List ℕ) → AboveBy weights (inv_term (mult_term x y)) (mult_term (inv_term y) (inv_term x)) → ⊥
not_inverse weights p =
    let some = weighs-something weights 6 in
    elim (cases-of p) [ inl l ↦ omega (arith, l, some) | inr r ↦ omega (arith, r.0, some) ]

inverse_back : (weights : List ℕ) → AboveBy weights (mult_term (inv_term y) (inv_term x)) (inv_term (mult_term x y))
inverse_back weights =
    by_weight (record { no_more = λ v. omega arith }) (omega (arith, weighs-something weights 6))

pub returns : goal.returns
returns c =
    record {
      listed = refl;
      at_least_one = refl;
      beyond = refl;
      weight = refl;
      once = refl;
      twice = refl;
      heavier = by_weight (record { no_more = λ v. omega arith }) (omega arith);
      sum = by_head (record { no_more = λ v. omega arith }) refl (omega arith);
      moved =
          by_arguments (record { no_more = λ v. omega arith }) refl
          (here refl (by_weight (record { no_more = λ v. omega arith }) (omega arith)));
      associated =
          by_arguments (record { no_more = λ v. omega arith }) refl
          (here refl (by_weight (record { no_more = λ v. omega arith }) (omega arith)));
      associated_back = first_stays 0 (plus_term y z) (plus_term x y) z (λ e. cc) refl;
      weighed = by_weight (record { no_more = λ v. omega arith }) (omega arith);
      unweighed = λ p. elim (cases-of p) [ inl l ↦ omega (arith, l) | inr r ↦ omega (arith, r.0) ];
      distributed = λ weights p. let h = cover-of p in omega (arith, h.no_more 0);
      product = λ weights p. let h = cover-of p in omega (arith, h.no_more 1);
      inverse = not_inverse;
      inverse_back = inverse_back;
      exchanged = first_stays 0 y y x (λ e. let k : 0 ≡ 1 = ap number e in omega (arith, k)) refl;
      variable = variable_above 0 zero_term;
      foreign = λ p. let h = cover-of p in omega (arith, h.no_more 0);
      fits = omega arith;
      overflows = λ l. omega (arith, l);
    }

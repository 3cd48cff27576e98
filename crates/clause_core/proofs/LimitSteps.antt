-- Which limits the steps keep at small clauses.
use Rattle.std.proofs.Common.{ℕ, zero, suc, ◌≤◌, List, [], ◌∷◌, inl, inr, refl, arith}
use Rattle.term_core.specs.Variables.{Occurs}
use Rattle.term_core.specs.declared.ids.SortId.{SortId}
use Rattle.spec_core.specs.Sorts.{Sorted}
use Rattle.spec_core.specs.WellSorted.{IsPattern}
use Rattle.spec_core.specs.Naturals.{nat, naturals_sig, number, zero_term, succ_term}
use Rattle.clause_core.specs.ClauseExamples.{equals, claims, zero_sum}
use Rattle.clause_core.specs.declared.answers.Children.{Children}
use Rattle.clause_core.specs.ExampleClauses.{less}
use Rattle.clause_core.specs.LimitExamples.{LimitExamples}
use Rattle.clause_core.proofs.SmallPlaces.{first}

-- a number is a natural, a pattern, and has no variables
number_is_sorted : (ctx : List SortId) (n : ℕ) → Sorted naturals_sig ctx (number n) nat
number_is_sorted ctx zero = (_, refl, refl, tt)
number_is_sorted ctx (suc n) = (_, refl, refl, (number_is_sorted ctx n, tt))

number_is_pattern : (n : ℕ) → IsPattern naturals_sig (number n)
number_is_pattern zero = (omega arith, tt)
number_is_pattern (suc n) = (omega arith, (number_is_pattern n, tt))

number_is_ground : (m n : ℕ) → Occurs m (number n) → ⊥
number_is_ground m zero o = o
number_is_ground m (suc n) (inl o) = number_is_ground m n o
number_is_ground m (suc n) (inr o) = o

-- what would be made
abbrev past : Children
past = record { clauses = less (claims [] (equals (succ_term (number 99)) zero_term)) ∷ []; refs = [] }

abbrev emptied : Children
emptied = record { clauses = less (record { ctx = []; premises = []; conclusions = [] }) ∷ []; refs = [] }

pub examples : LimitExamples
examples = record {
  instance_past = inl (
    record { clause = zero_sum; is = refl },
    inl ((number_is_sorted (nat ∷ []) 100, tt), inr (λ w. (let d : 102 ≤ 100 = w.depth in omega (arith, d)), refl)),
  );
  terms_first = inl (record { clause = zero_sum; is = refl }, inr (λ h. h.1, refl));
  child_past = inl (
    first _ [],
    inl (
      record {
        variable = 0;
        term = number 99;
        solves = (refl, refl);
        pattern = number_is_pattern 99;
        absent = number_is_ground 0 99;
      },
      (past, ((refl, refl), tt), tt, inr (λ w. (let d : 101 ≤ 100 = w.0.0.depth in omega (arith, d)), refl)),
    ),
  );
  closes = λ nodes full. inl (first _ [], inl (refl, (_, tt, tt, inl ((tt, omega (arith, full)), refl))));
  no_child = λ nodes full. inl (
    first _ [],
    (emptied, ((refl, refl), tt), tt, inr (λ w. omega (arith, full, w.1), refl)),
  );
  fit_first = λ nodes full. inl (first _ [], inr (λ h. h, refl));
}

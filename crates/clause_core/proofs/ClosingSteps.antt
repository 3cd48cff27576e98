-- What the steps that close a node say of small clauses.
use Rattle.std.proofs.Common.{◌≡◌, ◌⊎◌, ℕ, List, [], ◌∷◌, Some, inl, inr, refl, ap, ◌∙◌, subst, arith}
use Rattle.std.specs.Prelude.{slice_get, get_or, codes}
use Rattle.term_core.specs.Tree.{var}
use Rattle.spec_core.specs.declared.records.Equation.{Equation}
use Rattle.spec_core.specs.declared.records.Goal.{Goal}
use Rattle.spec_core.specs.Naturals.{naturals, same_goal, unit_goal, zero_term, plus_term}
use Rattle.clause_core.specs.ClauseExamples.{equals}
use Rattle.clause_core.specs.Limits.{IsWithin}
use Rattle.clause_core.specs.Equations.{IsEither}
use Rattle.clause_core.specs.Referred.{UsableGoal}
use Rattle.clause_core.specs.ExampleClauses.{unit_of, only_goal}
use Rattle.clause_core.specs.ClosingExamples.{ClosingExamples, unit_where_zero}
use Rattle.clause_core.proofs.SmallPlaces.{first, number_in_range}

abbrev pub unit_usable : UsableGoal naturals (only_goal 1) (codes "unit")
unit_usable = record { number = 1; goal = unit_goal; is = refl; named = refl; may_be_used = refl }

-- the first goal has another name
not_usable : UsableGoal naturals (only_goal 0) (codes "unit") → ⊥
not_usable g =
    let e : Some same_goal ≡ Some g.goal = subst (λ n. slice_get naturals.goals n ≡ Some g.goal) g.may_be_used g.is in
    let k : same_goal ≡ g.goal = cc in
    let q : codes "same" ≡ codes "unit" = ap (λ (x : Goal). x.name) k ∙ g.named in
    omega (arith, ap (λ (ns : List ℕ). get_or ns 0 0) q)

-- ?0 = zero isn't there, nor has it identical sides
pub no_premise : ⊥ ⊎ (var 0 ≡ zero_term) → ⊥
no_premise (inl h) = h
no_premise (inr e) = cc

no_match : IsEither (unit_of (var 0)) (equals (var 0) zero_term) → ⊥
no_match (inl e) = let q : var 0 ≡ plus_term (var 0) zero_term = ap (λ (x : Equation). x.left) e in cc
no_match (inr e) =
    let q : zero_term ≡ plus_term (var 0) zero_term = ap (λ (x : Equation). x.right) e in
    let k : ◌≡◌ {A = ℕ} 2 4 = cc in
    omega arith

pub where_zero_within : IsWithin unit_where_zero
where_zero_within = record { equations = omega arith; depth = omega arith; size = omega arith }

pub examples : ClosingExamples
examples = record {
  trivial = inl (first _ [], inl (refl, (_, tt, tt, inl ((tt, omega arith), refl))));
  not_trivial = inl (first _ [], inr (λ e. (let q : plus_term zero_term (var 0) ≡ var 0 = e in cc), refl));
  no_first = inr (λ at. omega (arith, at.place), refl);
  no_second = inr (λ at. omega (arith, at.place, number_in_range _ 2 at), refl);
  matches = inl ((first _ [], first _ []), inl (inr refl, (_, tt, tt, inl ((tt, omega arith), refl))));
  not_matching = inl ((first _ [], first _ []), inr (no_match, refl));
  absurd_heads = inl (
    first _ [],
    inl (
      (omega arith, omega arith, λ e. omega (arith, e)),
      (_, tt, tt, inl ((tt, omega arith), refl)),
    ),
  );
  absurd_part = inl (
    first _ [],
    inl ((omega arith, inl (omega arith, inl refl)), (_, tt, tt, inl ((tt, omega arith), refl))),
  );
  below_a_function = inl (first _ [], inr (λ h. omega (arith, h.0), refl));
  equal_heads = inl (first _ [], inr (λ h. h.2 refl, refl));
  without_premise = inl (
    record { clause = unit_where_zero; is = refl },
    inl ((refl, tt), inl (where_zero_within, inr (λ h. no_premise h.0.0, refl))),
  );
  with_premise = inl (
    record { clause = unit_where_zero; is = refl },
    inl (
      (refl, tt),
      inl (
        where_zero_within,
        inl (
          ((inl (inl (inr refl)), tt), (inl (inl refl), tt)),
          (
            _,
            tt,
            ((refl, record { moves = (0, 1) ∷ []; below = (omega arith, omega arith, tt); is = refl }), tt),
            inl ((tt, omega arith), refl),
          ),
        ),
      ),
    ),
  );
  no_terms = inl (record { clause = unit_where_zero; is = refl }, inr (λ h. h, refl));
  by_goal = inl (
    unit_usable,
    inl (
      ((_, refl, refl, (refl, tt)), tt),
      inl (
        record { equations = omega arith; depth = omega arith; size = omega arith },
        inl ((tt, (inl (inl refl), tt)), (_, tt, tt, inl ((tt, omega arith), refl))),
      ),
    ),
  );
  by_other_goal = inr (not_usable, refl);
}

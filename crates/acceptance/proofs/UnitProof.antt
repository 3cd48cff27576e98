-- The proof of plus(x, zero) = x by cases of x is accepted.
use Rattle.std.proofs.Common.{◌≡◌, ℕ, zero, suc, ◌<◌, List, [], ◌∷◌, true, Some, inl, inr, refl, sym, subst, arith}
use Rattle.std.specs.Prelude.{Any, codes}
use Rattle.std.proofs.lemmas.List.Sorted.{IsPermutation-refl}
use Rattle.term_core.specs.Tree.{Tree, Trees, var, app, none, some}
use Rattle.term_core.specs.declared.ids.SortId.{SortId}
use Rattle.term_core.specs.Contexts.{hole}
use Rattle.spec_core.specs.declared.records.Equation.{Equation}
use Rattle.spec_core.specs.declared.records.Goal.{Goal}
use Rattle.spec_core.specs.declared.records.Spec.{Spec}
use Rattle.spec_core.specs.declared.records.SymInfo.{SymInfo}
use Rattle.spec_core.specs.Sorts.{Sorted, SortedAll, IsBuilt}
use Rattle.spec_core.specs.Naturals.{nat, declares, naturals, naturals_sig, unit_goal, zero_term, succ_term, plus_term}
use Rattle.spec_core.specs.Naturals.{plus_zero_rule, plus_succ_rule}
use Rattle.spec_core.proofs.SortedNaturals.{bool_is_not_nat}
use Rattle.sample_specs.specs.SumOrder.{AboveInSums}
use Rattle.clause_core.specs.declared.clauses.Clause.{Clause}
use Rattle.clause_core.specs.declared.answers.Children.{Children}
use Rattle.clause_core.specs.declared.answers.Child.{Child}
use Rattle.clause_core.specs.declared.reports.Claim.{Claim}
use Rattle.clause_core.specs.Limits.{IsWithin}
use Rattle.clause_core.specs.NumberedEquations.{EquationAt}
use Rattle.clause_core.specs.Places.{TermAt}
use Rattle.clause_core.specs.RuleInstances.{RuleAt}
use Rattle.clause_core.specs.Patterns.{IsPatternOf, IsInstanceOf, AreCovering}
use Rattle.clause_core.specs.ClauseExamples.{equals, claims}
use Rattle.clause_core.specs.ExampleClauses.{one, unit_of, unit_clause, conclusion_side, less, same, same_as_first}
use Rattle.clause_core.specs.TableExamples.{zero_or_succ}
use Rattle.acceptance.specs.Strict.{Strict, AllAreAllowed}
use Rattle.acceptance.specs.Blocks.{StepsMake, StepMakes}
use Rattle.acceptance.specs.Claims.{IsClaimed, IsGoalNamed, ProvedBefore}
use Rattle.acceptance.specs.Accepting.{ClaimIsAccepted, IsAccepted}
use Rattle.acceptance.specs.Examples.{by_cases, unit_steps, proves_unit, proves_again, again_goal, two_units}
use Rattle.acceptance.proofs.Links.{strict_by, allowed_by, allowed_past}

-- The nodes, and what each step makes.

abbrev pub at_zero : Clause
at_zero = claims [] (unit_of zero_term)

abbrev pub at_succ : Clause
at_succ = claims one (unit_of (succ_term (var 0)))

abbrev zero_is_zero : Clause
zero_is_zero = claims [] (equals zero_term zero_term)

abbrev both_succ : Clause
both_succ = claims one (equals (succ_term (plus_term (var 0) zero_term)) (succ_term (var 0)))

abbrev pub makes_clauses : List Child → Children
makes_clauses ds = record { clauses = ds; refs = [] }

-- both cases, and a reference to the goal itself
abbrev pub both_cases : Children
both_cases = makes_clauses (same at_zero ∷ same at_succ ∷ [])

abbrev pub by_goal : Children
by_goal = record { clauses = []; refs = same_as_first ∷ [] }

abbrev pub made : List Children
made = both_cases ∷ makes_clauses (less zero_is_zero ∷ []) ∷ makes_clauses (less both_succ ∷ []) ∷ makes_clauses
    [] ∷ makes_clauses (less unit_clause ∷ []) ∷ by_goal ∷ []

pub zero_pattern : IsPatternOf naturals_sig nat [] zero_term
zero_pattern = record { sorted = (_, refl, refl, tt); pattern = (omega arith, tt); numbered = refl }

succ_pattern : IsPatternOf naturals_sig nat one (succ_term (var 0))
succ_pattern = record { sorted = (_, refl, refl, (refl, tt)); pattern = (omega arith, (tt, tt)); numbered = refl }

args : (i : SymInfo) (ts : Trees) (ss : List SortId) → Some (declares ss) ≡ Some i →
    SortedAll naturals_sig [] ts i.args → SortedAll naturals_sig [] ts ss
args i ts ss at s = let e : declares ss ≡ i = cc in
    subst (λ (x : SymInfo). SortedAll naturals_sig [] ts x.args) (sym e) s

nat_value : (v : Tree) → Sorted naturals_sig [] v nat → IsBuilt naturals_sig v → Any (IsInstanceOf v) zero_or_succ
nat_value (var n) s b = absurd b
nat_value (app zero ts) s b = absurd (bool_is_not_nat s.0 s.1 s.2)
nat_value (app (suc zero) ts) s b = absurd (bool_is_not_nat s.0 s.1 s.2)
nat_value (app (suc (suc zero)) none) s b = (0, zero_term, omega arith, refl, ([], refl))
nat_value (app (suc (suc zero)) (some t ts)) s b = absurd (args s.0 (some t ts) [] s.1 s.3)
nat_value (app (suc (suc (suc zero))) none) s b = absurd (args s.0 none (nat ∷ []) s.1 s.3)
nat_value (app (suc (suc (suc zero))) (some t none)) s b = (1, succ_term (var 0), omega arith, refl, (t ∷ [], refl))
nat_value (app (suc (suc (suc zero))) (some t (some u us))) s b = absurd
    (args s.0 (some t (some u us)) (nat ∷ []) s.1 s.3).1
nat_value (app (suc (suc (suc (suc f)))) ts) s b = let k : suc (suc (suc (suc f))) < 4 = b.0 in absurd (omega arith)

covering : AreCovering naturals_sig nat zero_or_succ
covering v h = nat_value v h.0 h.1

pub start_within : IsWithin unit_clause
start_within = record { equations = omega arith; depth = omega arith; size = omega arith }

pub zero_within : IsWithin at_zero
zero_within = record { equations = omega arith; depth = omega arith; size = omega arith }

pub succ_within : IsWithin at_succ
succ_within = record { equations = omega arith; depth = omega arith; size = omega arith }

abbrev first : (ctx : List SortId) (e : Equation) → EquationAt (e ∷ []) 1
first ctx e = record { before = []; equation = e; after = []; is = refl; place = refl }

abbrev left_side : (ctx : List SortId) (e : Equation) → TermAt (claims ctx e) (conclusion_side true [])
left_side ctx e = record { at = first ctx e; round = hole; term = e.left; is = refl; path = refl }

-- naturals with these goals
abbrev with_goals : List Goal → Spec
with_goals goals = record naturals { goals = goals }

module _ (goals : List Goal) (usable : ℕ → Type 0) where
  abbrev zero_rule_at : RuleAt (with_goals goals) 1
  zero_rule_at = record { place = 0; rule = plus_zero_rule; counts = refl; is = refl }

  abbrev succ_rule_at : RuleAt (with_goals goals) 2
  succ_rule_at = record { place = 1; rule = plus_succ_rule; counts = refl; is = refl }

  pub cases_made : StepMakes AboveInSums (with_goals goals) usable (unit_clause ∷ []) 0 by_cases both_cases
  cases_made = record {
    clause = unit_clause;
    is = refl;
    says = inl (
      record { sort = nat; is = refl; contexts = [] ∷ (one ∷ []); each = (zero_pattern, (succ_pattern, tt)) },
      inl (
        covering,
        (
          _,
          ((refl, refl), ((refl, refl), tt)),
          tt,
          inl (((zero_within, (succ_within, tt)), omega arith), refl),
        ),
      ),
    );
  }

  pub makes : StepsMake AboveInSums (with_goals goals) usable (unit_clause ∷ []) 0 unit_steps made
  makes = (
    cases_made,
    (
      record {
        clause = at_zero;
        is = refl;
        says = inl (
          left_side [] _,
          inl (
            zero_rule_at,
            inl (
              (record { terms = zero_term ∷ []; long = refl; is = refl }, tt),
              (
                _,
                ((refl, refl), tt),
                tt,
                inl (
                  ((record { equations = omega arith; depth = omega arith; size = omega arith }, tt), omega arith),
                  refl,
                ),
              ),
            ),
          ),
        );
      },
      (
        record {
          clause = at_succ;
          is = refl;
          says = inl (
            left_side one _,
            inl (
              succ_rule_at,
              inl (
                (record { terms = var 0 ∷ zero_term ∷ []; long = refl; is = refl }, tt),
                (
                  _,
                  ((refl, refl), tt),
                  tt,
                  inl (
                    (
                      (record { equations = omega arith; depth = omega arith; size = omega arith }, tt),
                      omega arith,
                    ),
                    refl,
                  ),
                ),
              ),
            ),
          );
        },
        (
          record {
            clause = zero_is_zero;
            is = refl;
            says = inl (
              first [] _,
              inl (refl, (_, tt, tt, inl ((tt, omega arith), refl))),
            );
          },
          (
            record {
              clause = both_succ;
              is = refl;
              says = inl (
                first one _,
                inl (
                  record {
                    head = 3;
                    lefts = _;
                    rights = _;
                    constructor = omega arith;
                    is_left = refl;
                    is_right = refl;
                  },
                  (_, ((refl, refl), tt), tt, inl (((start_within, tt), omega arith), refl)),
                ),
              );
            },
            (
              record {
                clause = unit_clause;
                is = refl;
                says = inl (
                  record { clause = unit_clause; is = refl },
                  inl (
                    (refl, tt),
                    inl (
                      start_within,
                      inl (
                        (tt, (inl (inl refl), tt)),
                        (_, tt, ((refl, IsPermutation-refl _), tt), inl ((tt, omega arith), refl)),
                      ),
                    ),
                  ),
                );
              },
              tt,
            ),
          ),
        ),
      ),
    ),
  )

strict_zero : Strict made 1
strict_zero = strict_by made 1 _ refl (inl refl, tt) tt

strict_succ : Strict made 2
strict_succ = strict_by made 2 _ refl (inl refl, tt) tt

strict_start : Strict made 0
strict_start = strict_by made 0 _ refl (
  inr (refl, omega arith, strict_zero),
  (inr (refl, omega arith, strict_succ), tt),
) tt

allowed : AllAreAllowed made
allowed zero = allowed_by made 0 _ refl (inr refl, (inr refl, tt)) tt
allowed (suc zero) = allowed_by made 1 _ refl (inl refl, tt) tt
allowed (suc (suc zero)) = allowed_by made 2 _ refl (inl refl, tt) tt
allowed (suc (suc (suc zero))) = allowed_by made 3 _ refl tt tt
allowed (suc (suc (suc (suc zero)))) = allowed_by made 4 _ refl (inl refl, tt) tt
allowed (suc (suc (suc (suc (suc zero))))) = allowed_by made 5 _ refl tt (inr (refl, inr strict_start), tt)
allowed (suc (suc (suc (suc (suc (suc k)))))) = allowed_past made (suc (suc (suc (suc (suc (suc k)))))) refl

module _ (budget : ℕ) (before : List Claim) (first : IsClaimed unit_goal.name before → ⊥) where
  -- after claims that aren't on this goal
  shown_by : (goals : List Goal) → IsGoalNamed (with_goals goals) unit_goal.name unit_goal →
      ClaimIsAccepted AboveInSums (with_goals goals) budget before (proves_unit unit_steps)
  shown_by goals named = record {
    goal = unit_goal;
    named = named;
    first = first;
    shown = record {
      within = start_within;
      made = made;
      makes = makes goals
          (ProvedBefore (with_goals goals) before);
      finished = refl;
      allowed = allowed;
    };
  }

  pub shown : ClaimIsAccepted AboveInSums naturals budget before (proves_unit unit_steps)
  shown = shown_by naturals.goals (1, refl, refl)

-- the goal again, after the goal unit

abbrev closed : List Children
closed = makes_clauses [] ∷ []

closed_allowed : AllAreAllowed closed
closed_allowed zero = allowed_by closed 0 _ refl tt tt
closed_allowed (suc k) = allowed_past closed (suc k) refl

not_again : IsClaimed (codes "again") (proves_unit unit_steps ∷ []) → ⊥
not_again (inl e) = let h : ◌≡◌ {A = ℕ} 117 97 = cc in omega arith
not_again (inr h) = h

again_shown : ClaimIsAccepted AboveInSums two_units 1 (proves_unit unit_steps ∷ []) proves_again
again_shown = record {
  goal = again_goal;
  named = (1, refl, refl);
  first = not_again;
  shown = record {
    within = start_within;
    made = closed;
    makes = (
      record {
        clause = unit_clause;
        is = refl;
        says = inl (
          record {
            number = 0;
            goal = unit_goal;
            is = refl;
            named = refl;
            may_be_used = (
              unit_goal,
              refl,
              inl (refl, tt),
            );
          },
          inl (
            (refl, tt),
            inl (start_within, inl ((tt, (inl (inl refl), tt)), (_, tt, tt, inl ((tt, omega arith), refl)))),
          ),
        );
      },
      tt,
    );
    finished = refl;
    allowed = closed_allowed;
  };
}

pub by_proved : IsAccepted AboveInSums two_units
    (record { steps = 1; claims = proves_unit unit_steps ∷ proves_again ∷ [] })
by_proved = (shown_by 1 [] (λ h. h) two_units.goals (0, refl, refl), (again_shown, tt))

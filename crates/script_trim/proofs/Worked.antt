-- The cut of the example.
use Rattle.std.proofs.Common.{◌≡◌, ◌↔◌, ℕ, zero, suc, ◌<◌, ◌≤◌, List, [], ◌∷◌, Bool, true, false, Some, None, inl}
use Rattle.std.proofs.Common.{refl, arith, subst, lit<, length}
use Rattle.std.specs.Prelude.{codes, slice_get, IsTrue}
use Rattle.std.specs.Fmt.{digits}
use Rattle.term_core.specs.Tree.{none}
use Rattle.term_core.specs.Contexts.{hole, under}
use Rattle.spec_core.specs.Naturals.{nat, naturals, naturals_sig, plus_zero_rule, plus_succ_rule, plus_term}
use Rattle.spec_core.specs.Naturals.{succ_term, zero_term}
use Rattle.sample_specs.specs.SumOrder.{AboveInSums}
use Rattle.term_core.specs.declared.ids.SortId.{SortId}
use Rattle.spec_core.specs.declared.records.Goal.{Goal}
use Rattle.spec_core.specs.Sorts.{Sorted}
use Rattle.spec_core.specs.WellSorted.{EquationsAreSorted, GoalIsSorted, GoalNamesAreDistinct, IsWellSorted}
use Rattle.spec_core.specs.declared.records.Equation.{Equation}
use Rattle.clause_core.specs.declared.answers.Child.{Child}
use Rattle.clause_core.specs.declared.answers.Children.{Children}
use Rattle.clause_core.specs.declared.clauses.Clause.{Clause}
use Rattle.clause_core.specs.declared.clauses.Relation.TheVariants.{Less}
use Rattle.clause_core.specs.declared.steps.Step.TheVariants.{Trivial}
use Rattle.clause_core.specs.ClauseExamples.{equals, claims}
use Rattle.clause_core.specs.ExampleClauses.{conclusion_side, less}
use Rattle.clause_core.specs.ClauseLaws.{OneRelation}
use Rattle.clause_core.specs.NumberedEquations.{EquationAt}
use Rattle.clause_core.specs.Places.{TermAt}
use Rattle.clause_core.specs.RuleInstances.{RuleAt}
use Rattle.proof_script.specs.Claims.{claim_text}
use Rattle.acceptance.specs.Accepting.{IsAccepted}
use Rattle.acceptance.specs.Blocks.{StepMakes, StepsMake}
use Rattle.acceptance.specs.Claims.{ProvedBefore}
use Rattle.acceptance.specs.Strict.{AllAreAllowed}
use Rattle.acceptance.proofs.Links.{allowed_by, allowed_past}
use Rattle.script_trim.specs.Cut.{Descends, child, IsCut}
use Rattle.script_trim.specs.Examples.{one_goal, with_one, four_steps, three_steps, report_by}
use Rattle.script_trim.specs.Made.{cut_made}
use Rattle.script_trim.specs.Trimmed.{proves, ProvedClaim, Closes}
use Rattle.script_trim.proofs.Children.{descends_later}
use Rattle.script_trim.proofs.QuickTests.{cut_accepted, less_allowed}

abbrev pub start : Clause
start = claims [] (equals (plus_term (succ_term zero_term) zero_term) (succ_term zero_term))

abbrev pub rewritten : Clause
rewritten = claims [] (equals (succ_term (plus_term zero_term zero_term)) (succ_term zero_term))

abbrev pub both_ones : Clause
both_ones = claims [] (equals (succ_term zero_term) (succ_term zero_term))

abbrev both_zeros : Clause
both_zeros = claims [] (equals zero_term zero_term)

abbrev pub makes_clauses : List Child → Children
makes_clauses ds = record { clauses = ds; refs = [] }

abbrev pub made : List Children
made =
    makes_clauses (less rewritten ∷ []) ∷ makes_clauses (less both_ones ∷ []) ∷ makes_clauses (less both_zeros ∷ []) ∷
    makes_clauses [] ∷ []

abbrev pub first : (e : Equation) → EquationAt (e ∷ []) 1
first e = record { before = []; equation = e; after = []; is = refl; place = refl }

abbrev left_side : (e : Equation) → TermAt (claims [] e) (conclusion_side true [])
left_side e = record { at = first e; round = hole; term = e.left; is = refl; path = refl }

abbrev in_succ : TermAt rewritten (conclusion_side true (1 ∷ []))
in_succ =
    record {
      at = first _;
      round = under 3 none hole none;
      term = plus_term zero_term zero_term;
      is = refl;
      path =
          refl;
    }

abbrev zero_rule_at : RuleAt with_one 1
zero_rule_at = record { place = 0; rule = plus_zero_rule; counts = refl; is = refl }

abbrev succ_rule_at : RuleAt with_one 2
succ_rule_at = record { place = 1; rule = plus_succ_rule; counts = refl; is = refl }

module _ (usable : ℕ → Type 0) where
  pub makes : StepsMake AboveInSums with_one usable (start ∷ []) 0 four_steps made
  makes = (
    record {
      clause = start;
      is = refl;
      says = inl (
        left_side _,
        inl (
          succ_rule_at,
          inl (
            (record { terms = zero_term ∷ zero_term ∷ []; long = refl; is = refl }, tt),
            (
              _,
              ((refl, refl), tt),
              tt,
              inl (
                (
                  (
                    record {
                      equations = omega arith;
                      depth = omega arith;
                      size =
                          omega arith;
                    },
                    tt,
                  ),
                  omega arith,
                ),
                refl,
              ),
            ),
          ),
        ),
      );
    },
    (
      record {
        clause = rewritten;
        is = refl;
        says = inl (
          in_succ,
          inl (
            zero_rule_at,
            inl (
              (record { terms = zero_term ∷ []; long = refl; is = refl }, tt),
              (
                _,
                ((refl, refl), tt),
                tt,
                inl (
                  (
                    (
                      record {
                        equations = omega arith;
                        depth = omega arith;
                        size =
                            omega arith;
                      },
                      tt,
                    ),
                    omega arith,
                  ),
                  refl,
                ),
              ),
            ),
          ),
        );
      },
      (
        record {
          clause = both_ones;
          is = refl;
          says = inl (
            first _,
            inl (
              record {
                head = 3;
                lefts = _;
                rights = _;
                constructor = omega arith;
                is_left =
                    refl;
                is_right = refl;
              },
              (
                _,
                ((refl, refl), tt),
                tt,
                inl (
                  ((record { equations = omega arith; depth = omega arith; size = omega arith }, tt), omega arith),
                  refl,
                ),
              ),
            ),
          );
        },
        (
          record {
            clause = both_zeros;
            is = refl;
            says = inl
                (first _, inl (refl, (_, tt, tt, inl ((tt, omega arith), refl))));
          },
          tt,
        ),
      ),
    ),
  )

allowed : AllAreAllowed made
allowed zero = allowed_by made 0 _ refl (inl refl, tt) tt
allowed (suc zero) = allowed_by made 1 _ refl (inl refl, tt) tt
allowed (suc (suc zero)) = allowed_by made 2 _ refl (inl refl, tt) tt
allowed (suc (suc (suc zero))) = allowed_by made 3 _ refl tt tt
allowed (suc (suc (suc (suc k)))) = allowed_past made (suc (suc (suc (suc k)))) refl

pub accepted : IsAccepted AboveInSums with_one (report_by four_steps)
accepted = (
  record {
    goal = one_goal;
    named = (0, refl, refl);
    first = λ h. h;
    shown = record {
      within = record { equations = omega arith; depth = omega arith; size = omega arith };
      made = made;
      makes = makes (ProvedBefore with_one []);
      finished = refl;
      allowed = allowed;
    };
  },
  tt,
)

abbrev pub claim : ProvedClaim AboveInSums with_one (report_by four_steps) 0
claim = record {
  goal = one_goal;
  named = (0, refl, refl);
  steps = four_steps;
  is = refl;
  made = made;
  makes = makes (ProvedBefore with_one []);
}

-- the nodes 0 to 2 stay
abbrev pub first_three : ℕ → Bool
first_three zero = true
first_three (suc zero) = true
first_three (suc (suc zero)) = true
first_three (suc (suc (suc k))) = false

last_descends : Descends made 2 3
last_descends = child Less (_, 0, _, refl, refl, refl, refl)

later : (k : ℕ) → Descends made 2 k → 2 < k
later k d =
    descends_later AboveInSums with_one (ProvedBefore with_one []) start four_steps made
    (makes (ProvedBefore with_one [])) 2 k d

pub which : (k : ℕ) → IsTrue (first_three k) ↔ ((k < 4) × ¬ (Descends made 2 k))
which zero = (λ e. (omega arith, λ d. omega (arith, later 0 d)), λ h. refl)
which (suc zero) = (λ e. (omega arith, λ d. omega (arith, later 1 d)), λ h. refl)
which (suc (suc zero)) = (λ e. (omega arith, λ d. omega (arith, later 2 d)), λ h. refl)
which (suc (suc (suc zero))) = (λ e. absurd (let q : false ≡ true = e in cc), λ h. absurd (h.1 last_descends))
which (suc (suc (suc (suc k)))) = (λ e. absurd (let q : false ≡ true = e in cc), λ h. absurd (omega (arith, h.0)))

abbrev pub cut_at : IsCut four_steps made 2 (Trivial 1) three_steps
cut_at = record { stays = first_three; which = which; refer = (tt, (tt, (tt, tt))); is = refl }

-- the closing step at node 2, over the nodes that the steps before it make
pub closing :
    StepMakes AboveInSums with_one (ProvedBefore with_one []) (start ∷ rewritten ∷ both_ones ∷ []) 2 (Trivial 1)
    (makes_clauses [])
closing =
    record {
      clause = both_ones;
      is = refl;
      says = inl (
        first _,
        inl (refl, (_, tt, tt, inl ((tt, omega arith), refl))),
      );
    }

pub short_three : length (claim_text with_one.sig (proves (codes "one") three_steps)) ≤ 300000
unfolding digits
short_three = omega arith

module _ (one : OneRelation AboveInSums) (fine : IsWellSorted with_one) where
  allowed_cut : AllAreAllowed (cut_made first_three made 2 (makes_clauses []))
  allowed_cut =
      less_allowed AboveInSums one with_one fine (report_by four_steps) accepted 0 claim 2 (Trivial 1) three_steps
      cut_at (omega arith) (makes_clauses []) refl (λ a r at. absurd (let q : None ≡ Some r = at in cc))

  pub accepted_cut : IsAccepted AboveInSums with_one (report_by three_steps)
  accepted_cut =
      cut_accepted AboveInSums one with_one fine (report_by four_steps) accepted 0 claim 2 (Trivial 1) three_steps
      cut_at (omega arith) (makes_clauses []) refl closing allowed_cut

  abbrev pub closes : Closes AboveInSums with_one (report_by four_steps) 0 2 (Trivial 1) three_steps
  closes = record {
    claim = claim;
    node = both_ones;
    node_is = refl;
    closing = (0, omega arith, refl);
    cut = cut_at;
    short = short_three;
    accepted = accepted_cut;
  }

-- naturals with the goal are well sorted

one_goal_is_sorted : GoalIsSorted naturals_sig one_goal
one_goal_is_sorted =
    record {
      premises = λ k e at. absurd (let q : None ≡ Some e = at in cc);
      conclusions = each;
      variables =
          tt;
      few_variables = omega arith;
    }
  where
    each : EquationsAreSorted naturals_sig [] one_goal.conclusions
    each zero e at =
        let q : Some (equals (plus_term (succ_term zero_term) zero_term) (succ_term zero_term)) ≡ Some e = at in
        let k : equals (plus_term (succ_term zero_term) zero_term) (succ_term zero_term) ≡ e = cc in
        subst (λ (x : Equation). (s : SortId) × Sorted naturals_sig [] x.left s × Sorted naturals_sig [] x.right s) k (
          nat,
          (_, refl, refl, ((_, refl, refl, ((_, refl, refl, tt), tt)), ((_, refl, refl, tt), tt))),
          (_, refl, refl, ((_, refl, refl, tt), tt)),
        )
    each (suc k) e at = absurd (let q : None ≡ Some e = at in cc)

goals_sorted : (k : ℕ) (goal : Goal) → slice_get with_one.goals k ≡ Some goal → GoalIsSorted naturals_sig goal
goals_sorted zero goal at =
    let q : Some one_goal ≡ Some goal = at in let e : one_goal ≡ goal = cc in
    subst (λ g. GoalIsSorted naturals_sig g) e one_goal_is_sorted
goals_sorted (suc k) goal at = absurd (let q : None ≡ Some goal = at in cc)

names_distinct : GoalNamesAreDistinct with_one.goals
names_distinct zero zero g h p q e = refl
names_distinct zero (suc k) g h p q e = absurd (let r : None ≡ Some h = q in cc)
names_distinct (suc j) k g h p q e = absurd (let r : None ≡ Some g = p in cc)

pub sorted : IsWellSorted naturals → IsWellSorted with_one
sorted w =
    record {
      order = w.order;
      signature = w.signature;
      arities = w.arities;
      rules = w.rules;
      goals =
          goals_sorted;
      names = names_distinct;
      few_rules = w.few_rules;
      few_goals = lit< tt;
    }

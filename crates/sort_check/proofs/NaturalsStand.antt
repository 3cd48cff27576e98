-- Naturals with addition stand for the raw ones, which have no fault; and the first faults of a few raw specifications.
use Rattle.std.proofs.Common.{rules, ◌≡◌, ◌≢◌, List, [], ◌∷◌, Some, None, inl, inr, refl, arith}
use Rattle.std.specs.Prelude.{codes}
use Rattle.term_core.specs.Tree.{app, none}
use Rattle.spec_core.specs.Sig.{names_of}
use Rattle.spec_core.specs.Small.{HasSmallValue, sort_of_number}
use Rattle.spec_core.specs.Declarations.{IsNewName}
use Rattle.spec_core.specs.Findings.{Clean, each_after}
use Rattle.spec_core.specs.Naturals.{nat, declares, naturals_sig, naturals, nat_constructors, nat_function}
use Rattle.spec_core.specs.Naturals.{plus_zero_rule, plus_succ_rule, same_goal, unit_goal}
use Rattle.spec_core.proofs.SortedNaturals.{declared, zero_rule_is_sorted, succ_rule_is_sorted, well_sorted}
use Rattle.spec_grammar.specs.declared.raw.RawRule.{RawRule}
use Rattle.spec_grammar.specs.declared.raw.RawGoal.{RawGoal}
use Rattle.sort_check.specs.Inference.{bound, left_argument}
use Rattle.sort_check.specs.Signatures.{SignatureStands}
use Rattle.sort_check.specs.Rules.{RuleStands}
use Rattle.sort_check.specs.Goals.{GoalStands}
use Rattle.sort_check.proofs.Precedences.{stands_by_number}
use Rattle.sort_check.specs.StandsFor.{IsNumbered, StandsFor}
use Rattle.sort_check.specs.DeclarationTests.{declarations_tests, values_sig}
use Rattle.sort_check.specs.RuleTests.{rule_tests}
use Rattle.sort_check.specs.GoalTests.{goal_tests}
use Rattle.sort_check.specs.FirstFault.{HasNoFault, HasFirstFault}
use Rattle.sort_check.specs.Examples.{binds, concludes, raw_naturals, naturals_with, plus_zero_gives, plus_succ}
use Rattle.sort_check.specs.Examples.{same_sums, zero_adds_nothing, y_at, loose_rule, free_goal, nat_twice}
use Rattle.sort_check.specs.declared.faults.SortKind.TheVariants.{RepeatedName, NotOnTheLeft, SortNotInferred}

x_new : IsNewName (codes "x") (names_of naturals_sig)
x_new = search rules

y_new : IsNewName (codes "y") (names_of naturals_sig)
y_new = search rules

-- What the raw naturals stand for.

signature_stands : SignatureStands raw_naturals naturals_sig
signature_stands = record {
  constructors = nat_constructors;
  functions = nat_function (codes "plus");
  is = refl;
  each_constructor = (nat_constructors, [], refl, ((refl, tt, refl), ((refl, (refl, tt), refl), tt)), refl);
  each_function = ((refl, (refl, (refl, tt)), refl), tt);
}

zero_rule_stands : RuleStands naturals_sig (plus_zero_gives (y_at 0)) plus_zero_rule
zero_rule_stands = record {
  names = search rules;
  left = (refl, ((refl, tt), ((refl, y_new, refl), tt)));
  right = (refl, y_new, refl);
  guards = tt;
  head = zero_rule_is_sorted.left;
  numbered = zero_rule_is_sorted.numbered;
  few_variables = zero_rule_is_sorted.few_variables;
  sides = zero_rule_is_sorted.sides;
  tests = tt;
}

succ_rule_stands : RuleStands naturals_sig plus_succ plus_succ_rule
succ_rule_stands = record {
  names = search rules;
  left = (refl, ((refl, ((refl, x_new, refl), tt)), ((refl, y_new, refl), tt)));
  right = (refl, ((refl, ((refl, x_new, refl), ((refl, y_new, refl), tt))), tt));
  guards = tt;
  head = succ_rule_is_sorted.left;
  numbered = succ_rule_is_sorted.numbered;
  few_variables = succ_rule_is_sorted.few_variables;
  sides = succ_rule_is_sorted.sides;
  tests = tt;
}

same_goal_stands : GoalStands naturals_sig
    (concludes (codes "same") (binds (codes "x") ∷ binds (codes "y") ∷ []) same_sums) same_goal
same_goal_stands = record {
  name = refl;
  variables = refl;
  names = search rules;
  bound = ((refl, refl), ((refl, refl), tt));
  sorts = (
    bound (binds (codes "x")) (0, omega arith, refl) refl refl,
    (bound (binds (codes "y")) (1, omega arith, refl) refl refl, tt),
  );
  premises = tt;
  conclusions = (
    (
      (refl, ((refl, x_new, refl), ((refl, y_new, refl), tt))),
      (refl, ((refl, x_new, refl), ((refl, x_new, refl), tt))),
    ),
    tt,
  );
  sorted = well_sorted.goals 0 same_goal refl;
}

unit_goal_stands : GoalStands naturals_sig (concludes (codes "unit") [] zero_adds_nothing) unit_goal
unit_goal_stands = record {
  name = refl;
  variables = refl;
  names = search rules;
  bound = tt;
  sorts = (
    left_argument zero_adds_nothing (0, omega arith, refl) (
      declares (nat ∷ nat ∷ []),
      (4, refl, refl),
      inl ((refl, refl, x_new), refl),
    ),
    tt,
  );
  premises = tt;
  conclusions = (((refl, ((refl, x_new, refl), ((refl, tt), tt))), (refl, x_new, refl)), tt);
  sorted = well_sorted.goals 1 unit_goal refl;
}

naturals_are_numbered : IsNumbered raw_naturals naturals
naturals_are_numbered = record {
  signature = signature_stands;
  declared = declared;
  order = stands_by_number naturals_sig raw_naturals refl refl refl;
  rules = (zero_rule_stands, (succ_rule_stands, tt));
  goals = (same_goal_stands, (unit_goal_stands, tt));
  names = well_sorted.names;
}

-- What the tests find.

same : {A : Type 0} {x : A} → x ≢ x → ⊥
same h = h refl

some_is_not_none : {A : Type 0} {x : A} → Some x ≡ None → ⊥
some_is_not_none e = cc

zero_is_small : (rules : List RawRule) (goals : List RawGoal) →
    HasSmallValue (values_sig (naturals_with rules goals)) (sort_of_number 1)
zero_is_small rs gs = (app 2 none, ((_, refl, refl, tt), (omega arith, tt)), omega arith)

declarations_clean : (rules : List RawRule) (goals : List RawGoal) →
    Clean (declarations_tests (naturals_with rules goals))
declarations_clean rs gs = (
  (λ h. h (search rules), tt),
  (
    ((((λ h. h (search rules)), tt), (((λ h. h (search rules)), ((λ h. h.1.0 refl), tt)), tt)), tt),
    (
      ((λ h. h (zero_is_small rs gs)), tt),
      ((((λ h. h (search rules)), ((λ h. h.1.0 refl), ((λ h. h.1.0 refl), tt))), (λ h. h.1.0 refl)), tt),
    ),
  ),
)

rules_clean : Clean (each_after (rule_tests naturals_sig 64) [] raw_naturals.rules)
rules_clean = (
  (
    (λ h. omega arith, (λ h. omega arith, (λ h. omega arith, same))),
    ((((λ h. h (omega arith), (same, same)), tt), (λ h. omega arith, tt)), (same, tt)),
  ),
  (
    (
      (λ h. omega arith, (λ h. omega arith, (λ h. omega arith, same))),
      (
        (((λ h. h (omega arith), (same, same)), (λ h. omega arith, tt)), (λ h. omega arith, tt)),
        (((tt, (same, same)), (((tt, (same, same)), (same, (same, tt))), tt)), tt),
      ),
    ),
    tt,
  ),
)

goals_clean : Clean (each_after (goal_tests naturals_sig) [] raw_naturals.goals)
goals_clean = (
  (
    λ h. h tt,
    (
      (((λ h. h (search rules), λ h. h.1.0 refl), ((λ h. h (search rules), λ h. h.1.0 refl), tt)), tt),
      (
        ((((tt, (same, tt)), (same, (same, tt))), ((tt, (same, same)), (same, (same, tt)))), tt),
        ((tt, tt), ((tt, (tt, (tt, tt))), (some_is_not_none, (some_is_not_none, tt)))),
      ),
    ),
  ),
  (
    (
      λ h. h (search rules),
      (
        (tt, tt),
        (
          ((((tt, (same, tt)), (λ h. omega arith, (((tt, (same, same)), tt), tt))), λ h. h), tt),
          ((same, tt), ((tt, (tt, tt)), (some_is_not_none, tt))),
        ),
      ),
    ),
    tt,
  ),
)

naturals_have_no_fault : HasNoFault raw_naturals
naturals_have_no_fault = (
  declarations_clean raw_naturals.rules raw_naturals.goals,
  (((tt, tt), tt), (rules_clean, goals_clean)),
)

pub naturals_stand : StandsFor raw_naturals naturals
naturals_stand = record { clean = naturals_have_no_fault; numbered = naturals_are_numbered }

pub loose_first : HasFirstFault (naturals_with (loose_rule ∷ []) []) 5 NotOnTheLeft
loose_first = inr (
  declarations_clean (loose_rule ∷ []) [],
  inr (
    ((tt, tt), tt),
    inl (inl (inr (
      (λ h. omega arith, (λ h. omega arith, (λ h. omega arith, same))),
      inr ((((λ h. h (omega arith), (same, same)), tt), (λ h. omega arith, tt)), inl (tt, refl)),
    ))),
  ),
)

pub free_first : HasFirstFault (naturals_with [] (free_goal ∷ [])) 3 SortNotInferred
free_first = inr (
  declarations_clean [] (free_goal ∷ []),
  inr (
    ((tt, tt), tt),
    inr (
      tt,
      inl (inr (
        λ h. h tt,
        inr (
          (tt, tt),
          inr (
            ((λ h. omega arith, λ h. omega arith), tt),
            inr ((tt, tt), inr ((((λ h. h), tt), (((λ h. h), tt), (((λ h. h), tt), tt))), inl (refl, refl))),
          ),
        ),
      )),
    ),
  ),
)

pub repeated_first : HasFirstFault nat_twice 9 RepeatedName
repeated_first = inl (inl (inr (λ h. h (search rules), inl (λ h. h.1.0 refl, refl))))

-- The declarations and the rules that `load` generates stand for those of its specification, and
-- have no fault.
use Rattle.std.proofs.Common.{rules, ◌≢◌, ℕ, zero, suc, [], refl, arith}
use Rattle.std.specs.Prelude.{codes}
use Rattle.std.specs.List.{AllZip}
use Rattle.term_core.specs.Tree.{app, none}
use Rattle.spec_core.specs.Sig.{names_of}
use Rattle.spec_core.specs.Small.{HasSmallValue, AllHaveSmallValues, sort_of_number}
use Rattle.spec_core.specs.Declarations.{IsNewName, IsDeclared, bool_sort}
use Rattle.spec_core.specs.Findings.{Clean, each_after}
use Rattle.spec_core.specs.Naturals.{nat, nat_sorts, nat_constructors, plus_zero_rule, plus_succ_rule}
use Rattle.sort_check.specs.Signatures.{SignatureStands}
use Rattle.sort_check.specs.Rules.{RuleStands}
use Rattle.sort_check.specs.DeclarationTests.{declarations_tests, values_sig}
use Rattle.sort_check.specs.RuleTests.{rule_tests}
use Rattle.load_text.specs.LoadRaw.{x, y, nought, yes, leaf, succ, plus, le, rewrites, load_rules, load_raw}
use Rattle.load_text.specs.LoadSpec.{load_functions, load_sig, le_zero_rule, le_succ_zero_rule, le_succ_rule}
use Rattle.load_text.specs.LoadSpec.{load_spec_rules}

-- The signature.

small : AllHaveSmallValues load_sig
small zero h = (app 0 none, ((_, refl, refl, tt), (omega arith, tt)), omega arith)
small (suc zero) h = (app 2 none, ((_, refl, refl, tt), (omega arith, tt)), omega arith)
small (suc (suc n)) h = absurd (omega arith)

pub load_declared : IsDeclared load_sig
load_declared = record {
  sorts = nat_sorts;
  constructors = nat_constructors;
  functions = load_functions;
  is = refl;
  distinct = search rules;
  constructors_in_range = search rules;
  functions_in_range = search rules;
  no_more_booleans = search rules;
  small = small;
}

pub load_signature : (n : ℕ) → SignatureStands (load_raw n) load_sig
load_signature n = record {
  constructors = nat_constructors;
  functions = load_functions;
  is = refl;
  each_constructor = (
    nat_constructors,
    [],
    refl,
    ((refl, tt, refl), ((refl, (refl, tt), refl), tt)),
    refl,
  );
  each_function = ((refl, (refl, (refl, tt)), refl), ((refl, (refl, (refl, tt)), refl), tt));
}

zero_is_small : (n : ℕ) → HasSmallValue (values_sig (load_raw n)) (sort_of_number 1)
zero_is_small n = (app 2 none, ((_, refl, refl, tt), (omega arith, tt)), omega arith)

pub load_declarations : (n : ℕ) → Clean (declarations_tests (load_raw n))
load_declarations n = (
  (λ h. h (search rules), tt),
  (
    ((((λ h. h (search rules)), tt), (((λ h. h (search rules)), ((λ h. h.1.0 refl), tt)), tt)), tt),
    (
      ((λ h. h (zero_is_small n)), tt),
      (
        (
          ((λ h. h (search rules)), ((λ h. h.1.0 refl), ((λ h. h.1.0 refl), tt))),
          (λ h. h.1.0 refl),
        ),
        (
          (
            ((λ h. h (search rules)), ((λ h. h.1.0 refl), ((λ h. h.1.0 refl), tt))),
            (λ h. h.0 refl),
          ),
          tt,
        ),
      ),
    ),
  ),
)

-- The rules.

pub x_new : IsNewName (codes "x") (names_of load_sig)
x_new = search rules

pub y_new : IsNewName (codes "y") (names_of load_sig)
y_new = search rules

plus_zero : RuleStands load_sig (rewrites (plus nought y) y) plus_zero_rule
plus_zero = record {
  names = search rules;
  left = (refl, ((refl, tt), ((refl, y_new, refl), tt)));
  right = (refl, y_new, refl);
  guards = tt;
  head = search rules;
  numbered = search rules;
  few_variables = omega arith;
  sides = (nat, (_, refl, refl, ((_, refl, refl, tt), (refl, tt))), refl);
  tests = tt;
}

plus_succ : RuleStands load_sig (rewrites (plus (succ x) y) (succ (plus x y))) plus_succ_rule
plus_succ = record {
  names = search rules;
  left = (refl, ((refl, ((refl, x_new, refl), tt)), ((refl, y_new, refl), tt)));
  right = (refl, ((refl, ((refl, x_new, refl), ((refl, y_new, refl), tt))), tt));
  guards = tt;
  head = search rules;
  numbered = search rules;
  few_variables = omega arith;
  sides = (
    nat,
    (_, refl, refl, ((_, refl, refl, (refl, tt)), (refl, tt))),
    (_, refl, refl, ((_, refl, refl, (refl, (refl, tt))), tt)),
  );
  tests = tt;
}

le_zero : RuleStands load_sig (rewrites (le nought y) yes) le_zero_rule
le_zero = record {
  names = search rules;
  left = (refl, ((refl, tt), ((refl, y_new, refl), tt)));
  right = (refl, tt);
  guards = tt;
  head = search rules;
  numbered = search rules;
  few_variables = omega arith;
  sides = (bool_sort, (_, refl, refl, ((_, refl, refl, tt), (refl, tt))), (_, refl, refl, tt));
  tests = tt;
}

le_succ_zero : RuleStands load_sig (rewrites (le (succ x) nought) (leaf (codes "false")))
    le_succ_zero_rule
le_succ_zero = record {
  names = search rules;
  left = (refl, ((refl, ((refl, x_new, refl), tt)), ((refl, tt), tt)));
  right = (refl, tt);
  guards = tt;
  head = search rules;
  numbered = search rules;
  few_variables = omega arith;
  sides = (
    bool_sort,
    (_, refl, refl, ((_, refl, refl, (refl, tt)), ((_, refl, refl, tt), tt))),
    (_, refl, refl, tt),
  );
  tests = tt;
}

le_succ : RuleStands load_sig (rewrites (le (succ x) (succ y)) (le x y)) le_succ_rule
le_succ = record {
  names = search rules;
  left = (refl, ((refl, ((refl, x_new, refl), tt)), ((refl, ((refl, y_new, refl), tt)), tt)));
  right = (refl, ((refl, x_new, refl), ((refl, y_new, refl), tt)));
  guards = tt;
  head = search rules;
  numbered = search rules;
  few_variables = omega arith;
  sides = (
    bool_sort,
    (_, refl, refl, ((_, refl, refl, (refl, tt)), ((_, refl, refl, (refl, tt)), tt))),
    (_, refl, refl, (refl, (refl, tt))),
  );
  tests = tt;
}

pub load_rules_stand : AllZip (RuleStands load_sig) load_rules load_spec_rules
load_rules_stand = (plus_zero, (plus_succ, (le_zero, (le_succ_zero, (le_succ, tt)))))

same : {A : Type 0} {a : A} → a ≢ a → ⊥
same h = h refl

-- A rule's root, the arguments on its left side, and its right side are tested, in this order.
pub load_rules_clean : Clean (each_after (rule_tests load_sig 64) [] load_rules)
load_rules_clean = (
  (
    (λ h. omega arith, (λ h. omega arith, (λ h. omega arith, same))),
    ((((λ h. h (omega arith), (same, same)), tt), (λ h. omega arith, tt)), (same, tt)),
  ),
  (
    (
      (λ h. omega arith, (λ h. omega arith, (λ h. omega arith, same))),
      (
        (((λ h. h (omega arith), (same, same)), (λ h. omega arith, tt)), (λ h. omega arith, tt)),
        (((tt, (same, same)), (((tt, (same, same)), (same, (same, tt))), tt)), tt),
      ),
    ),
    (
      (
        (λ h. omega arith, (λ h. omega arith, (λ h. omega arith, same))),
        (
          (((λ h. h (omega arith), (same, same)), tt), (λ h. omega arith, tt)),
          (((tt, (same, same)), tt), tt),
        ),
      ),
      (
        (
          (λ h. omega arith, (λ h. omega arith, (λ h. omega arith, same))),
          (
            (
              ((λ h. h (omega arith), (same, same)), (λ h. omega arith, tt)),
              (((λ h. h (omega arith), (same, same)), tt), tt),
            ),
            (((tt, (same, same)), tt), tt),
          ),
        ),
        (
          (
            (λ h. omega arith, (λ h. omega arith, (λ h. omega arith, same))),
            (
              (
                ((λ h. h (omega arith), (same, same)), (λ h. omega arith, tt)),
                (((λ h. h (omega arith), (same, same)), (λ h. omega arith, tt)), tt),
              ),
              (((tt, (same, same)), (same, (same, tt))), tt),
            ),
          ),
          tt,
        ),
      ),
    ),
  ),
)

-- Naturals with addition are admitted, and with other rules of addition they aren't.
use Rattle.std.specs.Prelude.{[], ◌∷◌, true, codes}
use Rattle.term_core.specs.Tree.{var, app, none}
use Rattle.spec_core.specs.declared.records.Guard.{Guard}
use Rattle.spec_core.specs.declared.records.Rule.{Rule}
use Rattle.spec_core.specs.declared.records.Spec.{Spec}
use Rattle.spec_core.specs.Naturals.{naturals, overlapping, uncovered, variable, plus_term}
use Rattle.sample_specs.specs.SumOrder.{AboveInSums}
use Rattle.clause_core.specs.Admitted.{IsAdmitted}

-- naturals with this one rule
abbrev pub with_rule : Rule → Spec
with_rule rule = record naturals { rules = rule ∷ []; goals = [] }

-- rule plus(x, x) = x
abbrev pub repeating_rule : Rule
repeating_rule = record {
  vars = variable (codes "x") ∷ [];
  left = plus_term (var 0) (var 0);
  right = var 0;
  guards = [];
}

-- rule plus(x, y) = plus(x, y)
abbrev pub looping_rule : Rule
looping_rule = record {
  vars = variable (codes "x") ∷ variable (codes "y") ∷ [];
  left = plus_term (var 0) (var 1);
  right = plus_term (var 0) (var 1);
  guards = [];
}

-- the test true
abbrev pub is_true : Guard
is_true = record { test = app 0 none; wanted = true }

-- rule plus(x, y) = x if true
abbrev pub one_sided_rule : Rule
one_sided_rule = record {
  vars = variable (codes "x") ∷ variable (codes "y") ∷ [];
  left = plus_term (var 0) (var 1);
  right = var 0;
  guards = is_true ∷ [];
}

pub record WorkedExamples : Type 0 where
  -- naturals with addition are admitted by the order of sums
  pub naturals_are_admitted : IsAdmitted AboveInSums naturals
  -- they aren't if a variable occurs twice on a left side
  pub repeating_is_not : IsAdmitted AboveInSums (with_rule repeating_rule) → ⊥
  -- nor if a right side isn't below its left side
  pub looping_is_not : IsAdmitted AboveInSums (with_rule looping_rule) → ⊥
  -- nor with the rules plus(zero, y) = y and plus(x, y) = x, which match the same values
  pub overlapping_is_not : IsAdmitted AboveInSums overlapping → ⊥
  -- nor if no rule takes over when a test has the other answer
  pub one_sided_is_not : IsAdmitted AboveInSums (with_rule one_sided_rule) → ⊥
  -- nor with the rule plus(zero, y) = y alone
  pub uncovered_is_not : IsAdmitted AboveInSums uncovered → ⊥

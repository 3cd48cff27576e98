-- What the definitions say of rules for addition: a fault of each kind.
use Rattle.std.specs.Prelude.{[], ◌∷◌, codes, true}
use Rattle.term_core.specs.Tree.{var, app, none}
use Rattle.spec_core.specs.declared.records.Guard.{Guard}
use Rattle.spec_core.specs.declared.records.Rule.{Rule}
use Rattle.spec_core.specs.declared.records.Spec.{Spec}
use Rattle.spec_core.specs.Naturals.{naturals, variable, plus_succ_rule, zero_term, succ_term, plus_term}
use Rattle.sample_specs.specs.SumOrder.{AboveInSums}
use Rattle.overlap_check.specs.Examples.{same_second, two_zeros}
use Rattle.spec_admit.specs.FirstFault.{Tells}
use Rattle.spec_admit.specs.declared.faults.AdmitFault.TheVariants.{Linear, Order, Overlap, Guards, Coverage}

-- rule plus(x, y) = plus(x, succ(y)), which doesn't end
abbrev pub growing_rule : Rule
growing_rule = record {
  vars = variable (codes "x") ∷ variable (codes "y") ∷ [];
  left = plus_term (var 0) (var 1);
  right = plus_term (var 0) (succ_term (var 1));
  guards = [];
}

abbrev pub growing : Spec
growing = record naturals { rules = growing_rule ∷ []; goals = [] }

-- rule plus(x, y) = x if true, with no rule for the other case
abbrev pub if_true : Guard
if_true = record { test = app 0 none; wanted = true }

abbrev pub half_rule : Rule
half_rule = record {
  vars = variable (codes "x") ∷ variable (codes "y") ∷ [];
  left = plus_term (var 0) (var 1);
  right = var 0;
  guards = if_true ∷ [];
}

abbrev pub half : Spec
half = record naturals { rules = half_rule ∷ []; goals = [] }

-- plus with no rule for zero
abbrev pub without_zero : Spec
without_zero = record naturals { rules = plus_succ_rule ∷ []; goals = [] }

pub record WorkedExamples : Type 0 where
  -- plus(x, x) has x twice, after plus(zero, y)
  pub linear : Tells AboveInSums same_second (Linear 2 (codes "x"))
  -- the right side of the rule that doesn't end isn't below its left side
  pub order : Tells AboveInSums growing (Order 1 0)
  -- (zero, zero) match plus(zero, y) and plus(x, zero)
  pub overlap : Tells AboveInSums two_zeros (Overlap 1 2 (zero_term ∷ zero_term ∷ []))
  -- nothing is said if the test isn't true
  pub guards : Tells AboveInSums half (Guards 1)
  -- if there is no rule for zero, (zero, zero) is named as missing for plus, whose number is 4
  pub coverage : Tells AboveInSums without_zero (Coverage (record { 0 = 4 }) (zero_term ∷ zero_term ∷ []))

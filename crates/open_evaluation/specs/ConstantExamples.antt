-- Naturals with addition and a constant.
use Rattle.std.specs.Prelude.{◌≡◌, [], ◌∷◌, ◌++◌, codes}
use Rattle.term_core.specs.Tree.{Tree, var, app, none, some}
use Rattle.spec_core.specs.declared.records.Rule.{Rule}
use Rattle.spec_core.specs.declared.records.Spec.{Spec}
use Rattle.spec_core.specs.Sig.{Sig}
use Rattle.spec_core.specs.Orders.{order_by_number}
use Rattle.spec_core.specs.Declarations.{declared_by}
use Rattle.spec_core.specs.Naturals.{nat, declares, nat_sorts, nat_constructors, nat_function, variable, naturals}
use Rattle.spec_core.specs.Naturals.{zero_term, succ_term, plus_term}
use Rattle.open_evaluation.specs.Shifted.{shifted, closed, IsExtended}

-- the constant, and addition after it
abbrev pub unknown_term : Tree
unknown_term = app 4 none

abbrev pub moved_plus : Tree → Tree → Tree
moved_plus s t = app 5 (some s (some t none))

-- rules plus(zero, y) = y and plus(succ(x), y) = succ(plus(x, y))
abbrev pub moved_zero_rule : Rule
moved_zero_rule = record {
  vars = variable (codes "y") ∷ [];
  left = moved_plus zero_term (var 0);
  right = var 0;
  guards = [];
}

abbrev pub moved_succ_rule : Rule
moved_succ_rule = record {
  vars = variable (codes "x") ∷ variable (codes "y") ∷ [];
  left = moved_plus (succ_term (var 0)) (var 1);
  right = succ_term (moved_plus (var 0) (var 1));
  guards = [];
}

-- sort Nat = zero | succ(Nat) | u, fun plus(Nat, Nat) : Nat
abbrev pub with_sig : Sig
with_sig =
    declared_by nat_sorts (nat_constructors ++ (codes "u", declares []) ∷ [])
    (nat_function (codes "plus"))

abbrev pub naturals_with : Spec
naturals_with = record {
  sig = with_sig;
  order = order_by_number with_sig;
  rules = moved_zero_rule ∷ moved_succ_rule ∷ [];
  goals = [];
}

-- the same if the constant comes before the constructors
abbrev pub naturals_before : Spec
naturals_before = record naturals_with {
  sig = declared_by nat_sorts ((codes "u", declares []) ∷ nat_constructors)
      (nat_function (codes "plus"));
}

pub record WorkedConstants : Type 0 where
  -- succ keeps its number and plus goes after the constant
  pub numbers : shifted 4 1 (succ_term (plus_term (var 0) zero_term))
      ≡ succ_term (moved_plus (var 0) zero_term)
  -- plus(succ(zero), x) with the constant for x
  pub closed_sum : closed 4 1 (plus_term (succ_term zero_term) (var 0))
      ≡ moved_plus (succ_term zero_term) unknown_term
  -- naturals with a constant of Nat are extended, and aren't if it comes before the constructors
  pub extended : IsExtended naturals naturals_with (nat ∷ [])
  pub not_extended : IsExtended naturals naturals_before (nat ∷ []) → ⊥

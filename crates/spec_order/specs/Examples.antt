-- What either order says of rules on naturals, where even, odd and mult are the symbols 5, 6 and 7.
use Rattle.std.specs.Prelude.{[], ◌∷◌, codes}
use Rattle.term_core.specs.Tree.{Tree, var, app, none, some}
use Rattle.spec_core.specs.declared.records.OrderInfo.TheVariants.{Weights}
use Rattle.spec_core.specs.declared.records.Rule.{Rule}
use Rattle.spec_core.specs.declared.records.Spec.{Spec}
use Rattle.spec_core.specs.Naturals.{naturals, variable, succ_term, plus_term}
use Rattle.clause_core.specs.Admitted.{RuleIsOrdered, RulesAreOrdered}
use Rattle.spec_order.specs.Orders.{above_of}

-- naturals with addition, where each symbol weighs 1, and where plus weighs 3
abbrev pub weighed : Spec
weighed = record naturals { order = Weights (1 ∷ 1 ∷ 1 ∷ 1 ∷ 1 ∷ []) }

abbrev pub heavy_sums : Spec
heavy_sums = record naturals { order = Weights (1 ∷ 1 ∷ 1 ∷ 1 ∷ 3 ∷ []) }

abbrev pub even_term : Tree → Tree
even_term t = app 5 (some t none)

abbrev pub odd_term : Tree → Tree
odd_term t = app 6 (some t none)

abbrev pub mult_term : Tree → Tree → Tree
mult_term s t = app 7 (some s (some t none))

-- rule mult(succ(x), y) = plus(y, mult(x, y))
abbrev pub product_rule : Rule
product_rule = record {
  vars = variable (codes "x") ∷ variable (codes "y") ∷ [];
  left = mult_term (succ_term (var 0)) (var 1);
  right = plus_term (var 1) (mult_term (var 0) (var 1));
  guards = [];
}

-- rule even(succ(x)) = odd(x)
abbrev pub even_rule : Rule
even_rule = record {
  vars = variable (codes "x") ∷ [];
  left = even_term (succ_term (var 0));
  right = odd_term (var 0);
  guards = [];
}

-- rule plus(x, succ(y)) = succ(succ(succ(succ(y))))
abbrev pub tall_rule : Rule
tall_rule = record {
  vars = variable (codes "x") ∷ variable (codes "y") ∷ [];
  left = plus_term (var 0) (succ_term (var 1));
  right = succ_term (succ_term (succ_term (succ_term (var 1))));
  guards = [];
}

pub record WorkedExamples : Type 0 where
  -- both rules of addition fall by levels, and by weights
  pub by_path : RulesAreOrdered (above_of naturals) naturals
  pub by_weights : RulesAreOrdered (above_of weighed) weighed
  -- the product falls by levels, and not by weights: y is twice on the right side
  pub product_by_path : RuleIsOrdered (above_of naturals) product_rule
  pub product_by_weights : RuleIsOrdered (above_of weighed) product_rule → ⊥
  -- even(succ(x)) = odd(x) falls by weights, and not by levels, where odd is greater
  pub even_by_weights : RuleIsOrdered (above_of weighed) even_rule
  pub even_by_path : RuleIsOrdered (above_of naturals) even_rule → ⊥
  -- the weights of a specification decide: plus(x, succ(y)) weighs 4 or 6, and its right side 5
  pub light : RuleIsOrdered (above_of weighed) tall_rule → ⊥
  pub heavy : RuleIsOrdered (above_of heavy_sums) tall_rule

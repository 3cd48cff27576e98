-- What the order of sums says of a few terms, where x is the variable 0 and y the variable 1.
use Rattle.std.specs.Prelude.{◌≡◌}
use Rattle.term_core.specs.Tree.{Tree, var}
use Rattle.spec_core.specs.Naturals.{zero_term, succ_term, plus_term}
use Rattle.sample_specs.specs.SumOrder.{value, AboveInSums}

abbrev x : Tree
x = var 0

abbrev y : Tree
y = var 1

pub record WorkedExamples : Type 0 where
  -- plus(succ(zero), zero) has the value 2 + 2 + 2 + 1
  pub value_of_sum : value (λ n. 0) (plus_term (succ_term zero_term) zero_term) ≡ 7
  -- both rules of addition fall
  pub zero_sum : AboveInSums (plus_term zero_term y) y
  pub succ_sum : AboveInSums (plus_term (succ_term x) y) (succ_term (plus_term x y))
  -- plus(x, y) is above neither itself nor plus(x, succ(y))
  pub itself : AboveInSums (plus_term x y) (plus_term x y) → ⊥
  pub growing : AboveInSums (plus_term x y) (plus_term x (succ_term y)) → ⊥
  -- a variable is above no term that has it
  pub variable : AboveInSums x (plus_term zero_term x) → ⊥

-- Uses and normal forms over naturals with addition, where rule 1 is plus(zero, y) = y and rule 2 is
-- plus(succ(x), y) = succ(plus(x, y)), and x is the variable 0.
use Rattle.std.specs.Prelude.{[], ◌∷◌}
use Rattle.term_core.specs.Tree.{Tree, var}
use Rattle.spec_core.specs.Naturals.{naturals, overlapping, zero_term, succ_term, plus_term}
use Rattle.normalization.specs.declared.normal.Normal.TheVariants.{Done, Spent}
use Rattle.normalization.specs.FirstUses.{IsFirstUse}
use Rattle.normalization.specs.Normals.{IsNormalizing}

-- plus(succ(x), zero), and what it becomes
abbrev pub sum : Tree
sum = plus_term (succ_term (var 0)) zero_term

abbrev pub normal_sum : Tree
normal_sum = succ_term (plus_term (var 0) zero_term)

-- plus(zero, plus(zero, x)), to which rule 1 fits at the root and at its second argument
abbrev pub nested : Tree
nested = plus_term zero_term (plus_term zero_term (var 0))

pub record WorkedExamples : Type 0 where
  -- within five uses, the sum becomes succ(plus(x, zero)) by one use of rule 2 at the root
  pub done : IsNormalizing naturals sum 5 (Done normal_sum (([], 2) ∷ []))
  -- one use is within the budget one, and too many for none
  pub just : IsNormalizing naturals sum 1 (Done normal_sum (([], 2) ∷ []))
  pub spent : IsNormalizing naturals sum 0 Spent
  pub not_spent : IsNormalizing naturals sum 1 Spent → ⊥
  -- the nested sum is used within, and not at its root
  pub innermost : IsFirstUse naturals nested (2 ∷ []) 1 (plus_term zero_term (var 0))
  pub not_outermost : IsFirstUse naturals nested [] 1 (plus_term zero_term (var 0)) → ⊥
  -- of two rules that fit the one of least number is used: with plus(x, y) = x as rule 2, it makes
  -- no use of plus(zero, x)
  pub not_second : IsFirstUse overlapping (plus_term zero_term (var 0)) [] 2 zero_term → ⊥

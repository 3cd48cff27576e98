-- Which limits steps keep, and which reasons go before them.
use Rattle.std.specs.Prelude.{◌≡◌, List, [], ◌∷◌, true, Result, Err, length}
use Rattle.term_core.specs.Tree.{var}
use Rattle.spec_core.specs.Naturals.{number, naturals, zero_term, succ_term}
use Rattle.sample_specs.specs.SumOrder.{AboveInSums}
use Rattle.clause_core.specs.declared.clauses.Clause.{Clause}
use Rattle.clause_core.specs.ClauseExamples.{equals, implies, zero_sum, same_x}
use Rattle.clause_core.specs.declared.steps.Step.{Step}
use Rattle.clause_core.specs.declared.steps.Step.TheVariants.{Trivial, Subsume, Clash, Drop, Solve}
use Rattle.clause_core.specs.declared.answers.Children.{Children}
use Rattle.clause_core.specs.declared.answers.Why.{Why}
use Rattle.clause_core.specs.declared.answers.Why.TheVariants.{DoesNotFit, Sort, Limit}
use Rattle.clause_core.specs.Says.{Says}
use Rattle.clause_core.specs.Steps.{row_of}
use Rattle.clause_core.specs.ExampleClauses.{one, no_goal, SaysAlone, gives}

-- what a step says at => ?0 = ?0 among 10,000 nodes
abbrev pub SaysInFull : Step → Result Children Why → Type 0
SaysInFull step answer =
    (nodes : List Clause) → length nodes ≡ 10000 →
    Says AboveInSums same_x nodes (row_of naturals no_goal nodes same_x step) answer

pub record LimitExamples : Type 0 where
  -- => plus(zero, 100) = 100 has 102 levels. That the instance passes a limit goes before that it
  -- doesn't fit, and that a term has no variable goes before that
  pub instance_past : SaysAlone naturals zero_sum (Subsume 0 (number 100 ∷ [])) (Err Limit)
  pub terms_first : SaysAlone naturals zero_sum (Subsume 0 (number 100 ∷ zero_term ∷ [])) (Err Sort)
  -- from ?0 = 99 => succ(?0) = zero, which has 100 levels, => succ(99) = zero would be made, with 101
  pub child_past : SaysAlone naturals
      (implies one (equals (var 0) (number 99)) (equals (succ_term (var 0)) zero_term)) (Solve 1)
      (Err Limit)
  -- among 10,000 nodes a node is closed, and no child is made
  pub closes : SaysInFull (Trivial 1) (gives [] [])
  pub no_child : SaysInFull (Drop true 1) (Err Limit)
  -- that a step doesn't fit goes before that
  pub fit_first : SaysInFull (Clash 1) (Err DoesNotFit)

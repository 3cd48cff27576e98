-- What the steps that put patterns for a variable, or a variable for a term, say over naturals.
use Rattle.std.specs.Prelude.{[], ◌∷◌, Err}
use Rattle.term_core.specs.Tree.{var}
use Rattle.spec_core.specs.Naturals.{naturals, zero_term, succ_term, plus_term}
use Rattle.clause_core.specs.ClauseExamples.{claims, zero_sum}
use Rattle.clause_core.specs.declared.steps.Step.TheVariants.{Cover, Generalize}
use Rattle.clause_core.specs.declared.answers.Why.TheVariants.{DoesNotFit, Sort}
use Rattle.clause_core.specs.ExampleClauses.{two, unit_of, unit_clause, SaysAlone, same, gives}

pub record CoveringExamples : Type 0 where
  -- a fresh variable covers each sort
  pub by_anything : SaysAlone naturals zero_sum (Cover (record { 0 = 0 }) (var 0 ∷ []))
      (gives (same zero_sum ∷ []) [])
  -- => plus(zero, ?0) = ?0 has no ?1; plus(?0, ?1) is no pattern, and in succ(?1) the variables don't
  -- count from 0
  pub no_variable : SaysAlone naturals zero_sum (Cover (record { 0 = 1 }) (var 0 ∷ [])) (Err Sort)
  pub no_pattern : SaysAlone naturals zero_sum
      (Cover (record { 0 = 0 }) (plus_term (var 0) (var 1) ∷ [])) (Err Sort)
  pub not_from_zero : SaysAlone naturals zero_sum
      (Cover (record { 0 = 0 }) (succ_term (var 1) ∷ [])) (Err Sort)
  -- => plus(plus(?0, ?1), zero) = plus(?0, ?1) generalized by plus(?0, ?1) is => plus(?0, zero) = ?0
  pub generalizes : SaysAlone naturals (claims two (unit_of (plus_term (var 0) (var 1))))
      (Generalize (plus_term (var 0) (var 1))) (gives (same unit_clause ∷ []) [])
  -- a variable isn't generalized, nor is plus(?0, succ(zero)), which isn't there
  pub not_by_a_variable : SaysAlone naturals unit_clause (Generalize (var 0)) (Err Sort)
  pub not_there : SaysAlone naturals unit_clause
      (Generalize (plus_term (var 0) (succ_term zero_term))) (Err DoesNotFit)

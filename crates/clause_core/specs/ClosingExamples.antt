-- What the steps that close a node say over naturals.
use Rattle.std.specs.Prelude.{[], ◌∷◌, Err, codes}
use Rattle.term_core.specs.Tree.{var}
use Rattle.spec_core.specs.Naturals.{naturals, zero_term, succ_term, plus_term}
use Rattle.clause_core.specs.declared.clauses.Clause.{Clause}
use Rattle.clause_core.specs.ClauseExamples.{equals, claims, implies, zero_sum, same_x}
use Rattle.clause_core.specs.declared.steps.Step.TheVariants.{Trivial, Match, Absurd, Subsume, ByLemma}
use Rattle.clause_core.specs.declared.answers.Why.TheVariants.{NoSuchPlace, DoesNotFit, NotProvedBefore, Sort}
use Rattle.clause_core.specs.ExampleClauses.{one, two, denies, unit_of, unit_clause, SaysAlone, SaysWithGoal}
use Rattle.clause_core.specs.ExampleClauses.{SaysBehind, same_as_first, gives}

-- ?0 = zero => plus(?0, zero) = ?0, and with the sides of the premise swapped
abbrev pub unit_where_zero : Clause
unit_where_zero = implies one (equals (var 0) zero_term) (unit_of (var 0))

abbrev pub unit_where_zero_swapped : Clause
unit_where_zero_swapped = implies one (equals zero_term (var 0)) (unit_of (var 0))

pub record ClosingExamples : Type 0 where
  -- => ?0 = ?0 is trivial, and => plus(zero, ?0) = ?0 isn't; conclusions count from 1, and it has one
  pub trivial : SaysAlone naturals same_x (Trivial 1) (gives [] [])
  pub not_trivial : SaysAlone naturals zero_sum (Trivial 1) (Err DoesNotFit)
  pub no_first : SaysAlone naturals same_x (Trivial 0) (Err NoSuchPlace)
  pub no_second : SaysAlone naturals same_x (Trivial 2) (Err NoSuchPlace)
  -- plus(?0, zero) = ?0 => ?0 = plus(?0, zero) matches with its sides swapped
  pub matches : SaysAlone naturals (implies one (unit_of (var 0))
      (equals (var 0) (plus_term (var 0) zero_term))) (Match 1 1) (gives [] [])
  -- ?0 = zero => plus(?0, zero) = ?0 doesn't match
  pub not_matching : SaysAlone naturals unit_where_zero (Match 1 1) (Err DoesNotFit)
  -- zero = succ(?0) => and ?0 = succ(succ(?0)) => are absurd
  pub absurd_heads : SaysAlone naturals (denies one (equals zero_term (succ_term (var 0))))
      (Absurd 1) (gives [] [])
  pub absurd_part : SaysAlone naturals (denies one (equals (var 0) (succ_term (succ_term (var 0)))))
      (Absurd 1) (gives [] [])
  -- ?0 = plus(?0, zero) => isn't, nor is succ(?0) = succ(?1) =>
  pub below_a_function : SaysAlone naturals
      (denies one (equals (var 0) (plus_term (var 0) zero_term))) (Absurd 1) (Err DoesNotFit)
  pub equal_heads : SaysAlone naturals (denies two (equals (succ_term (var 0)) (succ_term (var 1))))
      (Absurd 1) (Err DoesNotFit)
  -- => plus(?0, zero) = ?0 isn't an instance of ?0 = zero => plus(?0, zero) = ?0, whose premise isn't
  -- there; this is one of it if its premise is there, swapped
  pub without_premise : SaysBehind unit_where_zero unit_clause (Subsume 0 (var 0 ∷ []))
      (Err DoesNotFit)
  pub with_premise : SaysBehind unit_where_zero unit_where_zero_swapped (Subsume 0 (var 0 ∷ []))
      (gives [] (same_as_first ∷ []))
  -- each variable has a term
  pub no_terms : SaysBehind unit_where_zero unit_clause (Subsume 0 []) (Err Sort)
  -- => plus(succ(?0), zero) = succ(?0) is an instance of the goal `unit`, whose number is 1
  pub by_goal : SaysWithGoal 1 (claims one (unit_of (succ_term (var 0))))
      (ByLemma (codes "unit") (succ_term (var 0) ∷ [])) (gives [] [])
  -- if the goal 0 alone may be used, this one may not
  pub by_other_goal : SaysWithGoal 0 (claims one (unit_of (succ_term (var 0))))
      (ByLemma (codes "unit") (succ_term (var 0) ∷ [])) (Err NotProvedBefore)

-- What the steps that take an equation apart or out say of small clauses.
use Rattle.std.specs.Prelude.{[], ◌∷◌, true, false, Err}
use Rattle.term_core.specs.Tree.{var}
use Rattle.spec_core.specs.declared.records.Equation.{Equation}
use Rattle.spec_core.specs.Naturals.{nat, naturals, zero_term, succ_term, plus_term}
use Rattle.clause_core.specs.ClauseExamples.{equals, claims, implies, same_x}
use Rattle.clause_core.specs.declared.steps.Step.TheVariants.{Decompose, Clash, Drop, Solve}
use Rattle.clause_core.specs.declared.answers.Why.TheVariants.{DoesNotFit}
use Rattle.clause_core.specs.Insertion.{list, insertion, cons_term}
use Rattle.clause_core.specs.ExampleClauses.{one, two, denies, SaysAlone, less, gives}

-- succ(?0) = succ(?1)
abbrev pub both_succ : Equation
both_succ = equals (succ_term (var 0)) (succ_term (var 1))

pub record SimplifyingExamples : Type 0 where
  -- succ(?0) = succ(?1) => ?1 = zero becomes ?0 = ?1 => ?1 = zero
  pub premise : SaysAlone naturals (implies two both_succ (equals (var 1) zero_term))
      (Decompose false 1) (gives (less (implies two (equals (var 0) (var 1))
      (equals (var 1) zero_term)) ∷ []) [])
  -- => cons(?0, ?2) = cons(?1, ?3) becomes => ?0 = ?1 and => ?2 = ?3, and => zero = zero nothing
  pub conclusion :
      SaysAlone insertion (claims (nat ∷ nat ∷ list ∷ list ∷ [])
      (equals (cons_term (var 0) (var 2)) (cons_term (var 1) (var 3)))) (Decompose true 1)
      (gives (less (claims (nat ∷ nat ∷ []) (equals (var 0) (var 1)))
      ∷ less (claims (list ∷ list ∷ []) (equals (var 0) (var 1))) ∷ []) [])
  pub constants : SaysAlone naturals (claims [] (equals zero_term zero_term)) (Decompose true 1)
      (gives [] [])
  -- => plus(?0, ?1) = plus(?1, ?0) isn't decomposed, since plus is no constructor
  pub function_heads : SaysAlone naturals
      (claims two (equals (plus_term (var 0) (var 1)) (plus_term (var 1) (var 0))))
      (Decompose true 1) (Err DoesNotFit)
  -- => zero = succ(?0), ?0 = ?0 without the first conclusion; the heads of => succ(?0) = succ(?1) are
  -- equal
  pub clashes : SaysAlone naturals (record {
    ctx = one;
    premises = [];
    conclusions = equals zero_term (succ_term (var 0)) ∷ equals (var 0) (var 0) ∷ [];
  })
      (Clash 1) (gives (less same_x ∷ []) [])
  pub equal_heads : SaysAlone naturals (claims two both_succ) (Clash 1) (Err DoesNotFit)
  -- succ(?0) = succ(?1) => ?1 = zero becomes => ?0 = zero if the premise is dropped
  pub drops : SaysAlone naturals (implies two both_succ (equals (var 1) zero_term)) (Drop false 1)
      (gives (less (claims one (equals (var 0) zero_term)) ∷ []) [])
  -- ?0 = succ(?1) => plus(?0, ?1) = ?0 becomes => plus(succ(?0), ?0) = succ(?0)
  pub solves : SaysAlone naturals (implies two (equals (var 0) (succ_term (var 1)))
      (equals (plus_term (var 0) (var 1)) (var 0))) (Solve 1)
      (gives (less (claims one (equals (plus_term (succ_term (var 0)) (var 0)) (succ_term (var 0))))
      ∷ []) [])
  -- ?0 = succ(?0) => isn't solved, nor ?0 = plus(?1, ?1) =>
  pub not_by_itself : SaysAlone naturals (denies one (equals (var 0) (succ_term (var 0)))) (Solve 1)
      (Err DoesNotFit)
  pub not_by_a_function : SaysAlone naturals
      (denies two (equals (var 0) (plus_term (var 1) (var 1)))) (Solve 1) (Err DoesNotFit)

-- What the table says at a sum of naturals and at a list of two items.
use Rattle.std.specs.Prelude.{List, [], ◌∷◌, true, false, Err, codes}
use Rattle.term_core.specs.Tree.{Tree, var}
use Rattle.term_core.specs.declared.ids.SortId.{SortId}
use Rattle.spec_core.specs.Naturals.{nat, naturals, zero_term, succ_term}
use Rattle.clause_core.specs.declared.clauses.Clause.{Clause}
use Rattle.clause_core.specs.ClauseExamples.{equals, claims, implies, zero_sum, same_x}
use Rattle.clause_core.specs.declared.steps.Step.TheVariants.{Subsume, ByLemma, Rule, Case, Decompose, Cover, Context}
use Rattle.clause_core.specs.declared.answers.Why.TheVariants.{NoSuchNode, NoSuchPlace, NoSuchRule, DoesNotFit}
use Rattle.clause_core.specs.declared.answers.Why.TheVariants.{NotProvedBefore, NotCovering}
use Rattle.clause_core.specs.Insertion.{list, insertion, true_term, false_term, cons_term, le_term, sorted_term}
use Rattle.clause_core.specs.Insertion.{two_items}
use Rattle.clause_core.specs.ExampleClauses.{conclusion_side, SaysAlone, less, same, same_as_first, gives}

-- two naturals and a list
abbrev pub two_and_list : List SortId
two_and_list = nat ∷ nat ∷ list ∷ []

-- => sorted(cons(?0, cons(?1, ?2))) = true
abbrev pub two_sorted : Clause
two_sorted = claims two_and_list (equals (sorted_term two_items) true_term)

-- true = le(?0, ?1) => sorted(cons(?0, cons(?1, ?2))) = true
abbrev pub two_sorted_where_le : Clause
two_sorted_where_le =
    implies two_and_list (equals true_term (le_term (var 0) (var 1)))
    (equals (sorted_term two_items) true_term)

-- le(?0, ?1) = true => sorted(cons(?1, ?2)) = true, and with the sides of the premise swapped
abbrev pub where_le : Clause
where_le =
    implies two_and_list (equals (le_term (var 0) (var 1)) true_term)
    (equals (sorted_term (cons_term (var 1) (var 2))) true_term)

abbrev pub where_le_swapped : Clause
where_le_swapped =
    implies two_and_list (equals true_term (le_term (var 0) (var 1)))
    (equals (sorted_term (cons_term (var 1) (var 2))) true_term)

-- le(?0, ?1) = false => false = true
abbrev pub where_not_le : Clause
where_not_le = implies (nat ∷ nat ∷ []) (equals (le_term (var 0) (var 1)) false_term)
    (equals false_term true_term)

-- => sorted(cons(zero, cons(?0, ?1))) = true, and => sorted(cons(succ(?0), cons(?1, ?2))) = true
abbrev pub first_zero : Clause
first_zero = claims (nat ∷ list ∷ [])
    (equals (sorted_term (cons_term zero_term (cons_term (var 0) (var 1)))) true_term)

abbrev pub first_succ : Clause
first_succ = claims two_and_list (equals
    (sorted_term (cons_term (succ_term (var 0)) (cons_term (var 1) (var 2)))) true_term)

-- zero, and succ of a fresh variable
abbrev pub zero_or_succ : List Tree
zero_or_succ = zero_term ∷ succ_term (var 0) ∷ []

pub record TableExamples : Type 0 where
  -- at plus(zero, ?0) = ?0 the first rule of plus makes ?0 = ?0, and the second one doesn't fit
  pub by_first_rule : SaysAlone naturals zero_sum (Rule (conclusion_side true []) 1)
      (gives (less same_x ∷ []) [])
  pub by_second_rule : SaysAlone naturals zero_sum (Rule (conclusion_side true []) 2)
      (Err DoesNotFit)
  -- below the right side, which is a variable, there is no place, and there is no third rule; rules
  -- count from 1
  pub below_a_variable : SaysAlone naturals zero_sum (Rule (conclusion_side false (1 ∷ [])) 1)
      (Err NoSuchPlace)
  pub by_third_rule : SaysAlone naturals zero_sum (Rule (conclusion_side true []) 3)
      (Err NoSuchRule)
  pub by_no_rule : SaysAlone naturals zero_sum (Rule (conclusion_side true []) 0) (Err NoSuchRule)
  -- its sides aren't of one constructor
  pub no_constructor : SaysAlone naturals zero_sum (Decompose true 1) (Err DoesNotFit)
  -- it is an instance of itself, and compares with this as Same; there is no other node, and no goal
  -- may be used
  pub by_itself : SaysAlone naturals zero_sum (Subsume 0 (var 0 ∷ []))
      (gives [] (same_as_first ∷ []))
  pub by_no_node : SaysAlone naturals zero_sum (Subsume 1 (var 0 ∷ [])) (Err NoSuchNode)
  pub by_no_lemma : SaysAlone naturals zero_sum (ByLemma (codes "g") (var 0 ∷ []))
      (Err NotProvedBefore)
  -- at => sorted(cons(?0, cons(?1, ?2))) = true there is a case for each rule of the group, and none
  -- of these rules fits without its guard
  pub by_cases : SaysAlone insertion two_sorted (Case (conclusion_side true []) 6)
      (gives (less where_le ∷ less where_not_le ∷ []) [])
  pub by_one_case : SaysAlone insertion two_sorted (Rule (conclusion_side true []) 6)
      (Err DoesNotFit)
  -- with its guard among the premises, swapped, the first one fits
  pub by_guarded_rule : SaysAlone insertion two_sorted_where_le (Rule (conclusion_side true []) 6)
      (gives (less where_le_swapped ∷ []) [])
  -- zero alone doesn't cover the naturals, zero and succ(_) do
  pub by_zero : SaysAlone insertion two_sorted (Cover (record { 0 = 0 }) (zero_term ∷ []))
      (Err NotCovering)
  pub by_zero_or_succ : SaysAlone insertion two_sorted (Cover (record { 0 = 0 }) zero_or_succ)
      (gives (same first_zero ∷ same first_succ ∷ []) [])
  -- there is no premise to use
  pub no_premise : SaysAlone insertion two_sorted (Context (conclusion_side true []) 1 true)
      (Err NoSuchPlace)

-- What the definitions say of small clauses over naturals, where x is the variable 0 and y the
-- variable 1.
use Rattle.std.specs.Prelude.{◌≡◌, List, [], ◌∷◌, Some, None}
use Rattle.term_core.specs.Tree.{Tree, var}
use Rattle.term_core.specs.declared.ids.SortId.{SortId}
use Rattle.spec_core.specs.declared.records.Equation.{Equation}
use Rattle.spec_core.specs.Declarations.{bool_sort}
use Rattle.spec_core.specs.Naturals.{nat, naturals_sig, zero_term, succ_term, plus_term, same_goal}
use Rattle.sample_specs.specs.SumOrder.{AboveInSums}
use Rattle.clause_core.specs.declared.clauses.Clause.{Clause}
use Rattle.clause_core.specs.declared.clauses.Relation.TheVariants.{Less, Same, Neither}
use Rattle.clause_core.specs.Clauses.{ClauseIsSorted}
use Rattle.clause_core.specs.ClauseInstances.{clause_instance}
use Rattle.clause_core.specs.Limits.{clause_size, clause_depth, IsWithin}
use Rattle.clause_core.specs.Tidied.{tidied, IsTidied, goal_clause}
use Rattle.clause_core.specs.Comparing.{Compares}

abbrev pub equals : Tree → Tree → Equation
equals s t = record { left = s; right = t }

-- over these variables, the clause with this conclusion alone, and the one with this premise
abbrev pub claims : List SortId → Equation → Clause
claims ctx e = record { ctx = ctx; premises = []; conclusions = e ∷ [] }

abbrev pub implies : List SortId → Equation → Equation → Clause
implies ctx e d = record { ctx = ctx; premises = e ∷ []; conclusions = d ∷ [] }

-- plus(zero, x) = x
abbrev pub zero_sum : Clause
zero_sum = claims (nat ∷ []) (equals (plus_term zero_term (var 0)) (var 0))

-- x = x
abbrev pub same_x : Clause
same_x = claims (nat ∷ []) (equals (var 0) (var 0))

-- y = zero implies plus(x, y) = x
abbrev pub right_zero : Clause
right_zero =
    implies (nat ∷ nat ∷ []) (equals (var 1) zero_term) (equals (plus_term (var 0) (var 1)) (var 0))

pub record ClauseExamples : Type 0 where
  -- plus(zero, x) = x is sorted and tidied; it has four symbols and variables, and two levels
  pub is_sorted : ClauseIsSorted naturals_sig zero_sum
  pub is_tidied : IsTidied zero_sum
  pub size : clause_size zero_sum ≡ 4
  pub depth : clause_depth zero_sum ≡ 2
  pub is_within : IsWithin zero_sum
  -- plus(zero, y) = y, where x has the sort Bool and doesn't occur, is tidied to it
  pub drops_others :
      tidied (claims (bool_sort ∷ nat ∷ []) (equals (plus_term zero_term (var 1)) (var 1)))
      ≡ zero_sum
  -- y = zero implies plus(x, y) = x is tidied to x = zero implies plus(y, x) = y
  pub premises_first :
      tidied right_zero
      ≡ implies (nat ∷ nat ∷ []) (equals (var 0) zero_term)
      (equals (plus_term (var 1) (var 0)) (var 1))
  pub is_not_tidied : IsTidied right_zero → ⊥
  -- the goal plus(x, y) = plus(x, x) is its own clause
  pub of_goal :
      goal_clause same_goal
      ≡ claims (nat ∷ nat ∷ []) (equals (plus_term (var 0) (var 1)) (plus_term (var 0) (var 0)))
  -- succ(x) for y makes y = zero implies plus(x, y) = x a clause over one natural
  pub instance_of :
      clause_instance (None ∷ Some (succ_term (var 0)) ∷ []) (nat ∷ []) right_zero
      ≡ implies (nat ∷ []) (equals (succ_term (var 0)) zero_term)
      (equals (plus_term (var 0) (succ_term (var 0))) (var 0))
  -- plus(zero, x) = x and x = plus(zero, x) have the same sides
  pub swapped :
      Compares AboveInSums zero_sum (claims (nat ∷ []) (equals (var 0) (plus_term zero_term (var 0))))
      Same
  -- x = x is less: x cancels once, and plus(zero, x) is above x
  pub rewritten : Compares AboveInSums zero_sum same_x Less
  -- the other way round no side is above plus(zero, x)
  pub greater : Compares AboveInSums same_x zero_sum Neither

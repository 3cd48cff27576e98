-- What the definitions say of naturals.
use Rattle.std.specs.Prelude.{◌≡◌, List, [], ◌∷◌}
use Rattle.term_core.specs.Tree.{Tree, var}
use Rattle.spec_core.specs.Groups.{Whole}
use Rattle.spec_core.specs.Naturals.{nat, naturals_sig, zero_term, succ_term}
use Rattle.coverage_check.specs.Values.{AreCovered}
use Rattle.coverage_check.specs.Rows.{IsRow}
use Rattle.coverage_check.specs.Opened.{opened}
use Rattle.coverage_check.specs.Named.{IsNamed}

-- the rows (zero, y) and (succ(x), y)
abbrev pub zero_or_succ : List (List Tree)
zero_or_succ = (zero_term ∷ (var 0 ∷ [])) ∷ ((succ_term (var 0) ∷ (var 1 ∷ [])) ∷ [])

pub record WorkedExamples : Type 0 where
  -- with no row, zero is missing; with the row zero, succ(zero) is
  pub no_row : IsNamed naturals_sig [] (nat ∷ []) (zero_term ∷ [])
  pub zero_alone :
      IsNamed naturals_sig ((zero_term ∷ []) ∷ []) (nat ∷ []) (succ_term zero_term ∷ [])
  -- with the row (x, zero), the small value zero comes before what is missing of the rest
  pub last_decides :
      IsNamed naturals_sig ((var 0 ∷ zero_term ∷ []) ∷ []) (nat ∷ nat ∷ [])
      (zero_term ∷ succ_term zero_term ∷ [])
  -- with no column and no row, the empty list is missing; one row covers it
  pub no_column : IsNamed naturals_sig [] [] []
  pub constant : AreCovered naturals_sig ([] ∷ []) []
  pub both_cover : AreCovered naturals_sig zero_or_succ (nat ∷ (nat ∷ []))
  -- opened at succ, the row of zero is left out
  pub opened_rows : opened 3 1 zero_or_succ ≡ (var 0 ∷ (var 1 ∷ [])) ∷ []
  -- opened at zero, the row of a variable keeps what is after it
  pub opened_variable : opened 2 0 ((var 7 ∷ (zero_term ∷ [])) ∷ []) ≡ (zero_term ∷ []) ∷ []
  -- (x, x) is no row, (succ(x), y) is one
  pub repeated : IsRow naturals_sig (nat ∷ (nat ∷ [])) (var 0 ∷ (var 0 ∷ [])) → ⊥
  pub linear : IsRow naturals_sig (nat ∷ (nat ∷ [])) (succ_term (var 0) ∷ (var 1 ∷ []))
  -- no guard lists are no decision tree, and two empty ones are none
  pub no_rules : Whole [] → ⊥
  pub two_unguarded : Whole ((1, []) ∷ ((2, []) ∷ [])) → ⊥

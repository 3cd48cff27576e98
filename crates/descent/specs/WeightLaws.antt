-- Laws of weights: each sorted clause has one, and tidying keeps it.
use Rattle.std.specs.Prelude.{◌≡◌, ◌↔◌, ℕ, List}
use Rattle.term_core.specs.Tree.{Tree}
use Rattle.spec_core.specs.declared.records.Spec.{Spec}
use Rattle.spec_core.specs.Truth.{AreValuesOf}
use Rattle.spec_core.specs.WellSorted.{IsWellSorted}
use Rattle.clause_core.specs.declared.clauses.Clause.{Clause}
use Rattle.clause_core.specs.Clauses.{ClauseIsSorted}
use Rattle.clause_core.specs.Tidied.{variables_of, tidied}
use Rattle.clause_core.specs.Failing.{values_at}
use Rattle.descent.specs.Weights.{IsWeight}

-- the clause has this weight under the values, and no other
pub record HasOneWeight
    (rank : ℕ → ℕ → Tree → ℕ → Type 0) (spec : Spec) (values : List Tree)
    (c : Clause) : Type 0 where
  pub weight : List ℕ
  pub is_weight : IsWeight rank spec values c weight
  pub alone : (w : List ℕ) → IsWeight rank spec values c w → weight ≡ w

-- each sorted clause has one weight under values of its variables' sorts
abbrev pub ClausesHaveOneWeight : (ℕ → ℕ → Tree → ℕ → Type 0) → Type 0
ClausesHaveOneWeight rank =
    (spec : Spec) → IsWellSorted spec → (c : Clause) → ClauseIsSorted spec.sig c →
    (values : List Tree) → AreValuesOf spec c.ctx values → HasOneWeight rank spec values c

-- a clause weighs under values what the tidied clause weighs under those of the variables that stay
abbrev pub TidyingKeepsWeight : (ℕ → ℕ → Tree → ℕ → Type 0) → Type 0
TidyingKeepsWeight rank =
    (spec : Spec) (c : Clause) (values : List Tree) (w : List ℕ) →
    IsWeight rank spec values c w
    ↔ IsWeight rank spec (values_at (variables_of c) values) (tidied c) w

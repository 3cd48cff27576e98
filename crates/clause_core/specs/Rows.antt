-- Rows of the table: what a step asks of a node, and what it makes there.
use Rattle.std.specs.Prelude.{ℕ, List}
use Rattle.clause_core.specs.declared.clauses.Clause.{Clause}
use Rattle.clause_core.specs.declared.clauses.Relation.{Relation}
use Rattle.clause_core.specs.declared.answers.Why.{Why}

-- a child before it is tidied: with the relation that the row gives it, or with the one that
-- comparing gives
pub data Made : Type 0 where
  child : Relation → Clause → Made
  compared_child : Clause → Made

-- conditions in their order, each with the reason for which the step isn't defined if it isn't
-- met, and then the children and the references that are made, each reference with the instance of
-- its node
pub data Row : Type 1 where
  needs : (P : Type 0) → Why → (P → Row) → Row
  makes : List Made → List (ℕ × Clause) → Row

-- What a row answers in a block, and that it has one answer.
use Rattle.std.specs.Prelude.{◌≡◌, ℕ, ◌+◌, ◌≤◌, ◌<◌, List, [], Result, Ok, Err, map, length}
use Rattle.term_core.specs.Tree.{Tree}
use Rattle.spec_core.specs.declared.records.Spec.{Spec}
use Rattle.spec_core.specs.WellSorted.{IsWellSorted}
use Rattle.clause_core.specs.declared.clauses.Clause.{Clause}
use Rattle.clause_core.specs.declared.clauses.Relation.TheVariants.{Less}
use Rattle.clause_core.specs.declared.steps.Place.{Place}
use Rattle.clause_core.specs.declared.answers.Child.{Child}
use Rattle.clause_core.specs.declared.answers.Children.{Children}
use Rattle.clause_core.specs.declared.answers.Why.{Why}
use Rattle.clause_core.specs.declared.answers.Why.TheVariants.{Limit}
use Rattle.clause_core.specs.Rows.{Row}
use Rattle.clause_core.specs.Says.{Says}
use Rattle.clause_core.specs.Rewriting.{rule_row}
use Rattle.clause_core.specs.CaseSplitting.{case_row}
use Rattle.cond_rewrite.specs.RowAnswers.{RowAnswers}

-- these clauses as children that are less, with no references
abbrev pub lesser : Clause → Child
lesser d = record { clause = d; relation = Less }

abbrev pub lesser_children : List Clause → Children
lesser_children ds = record { clauses = map lesser ds; refs = [] }

module _ (above : Tree → Tree → Type 0) (c : Clause) (nodes : List Clause) where
  -- what a row answers by itself it says of the clause over these nodes by this order, except that
  -- there may be too many nodes with the children
  pub record SaysInBlock (row : Row) : Type 0 where
    pub made :
        (ds : List Clause) → RowAnswers row (Ok ds) → length nodes + length ds ≤ 10000 →
        Says above c nodes row (Ok (lesser_children ds))
    pub too_many :
        (ds : List Clause) → RowAnswers row (Ok ds) → 10000 < length nodes + length ds →
        Says above c nodes row (Err Limit)
    pub refused : (why : Why) → RowAnswers row (Err why) → Says above c nodes row (Err why)

-- the rows of `rule` and `case` do so
abbrev pub RowsInBlocks : (Tree → Tree → Type 0) → Type 0
RowsInBlocks above =
    (spec : Spec) (c : Clause) (nodes : List Clause) (place : Place) (number : ℕ) →
    SaysInBlock above c nodes (rule_row spec c place number)
    × SaysInBlock above c nodes (case_row spec c place number)

-- the rows of `rule` and `case` have one answer by themselves
abbrev pub OneRowAnswer : Type 0
OneRowAnswer =
    (spec : Spec) (c : Clause) (place : Place) (number : ℕ) (a b : Result (List Clause) Why) →
    IsWellSorted spec →
    (RowAnswers (rule_row spec c place number) a → RowAnswers (rule_row spec c place number) b
    → a ≡ b)
    × (RowAnswers (case_row spec c place number) a → RowAnswers (case_row spec c place number) b
    → a ≡ b)

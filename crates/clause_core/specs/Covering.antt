-- The row of the step that splits a variable into patterns: `cover`.
use Rattle.std.specs.Prelude.{◌≡◌, ℕ, List, [], ◌++◌, Some, map, zip, length, slice_get}
use Rattle.std.specs.List.{AllZip}
use Rattle.term_core.specs.Tree.{Tree, instance}
use Rattle.term_core.specs.declared.ids.SortId.{SortId}
use Rattle.spec_core.specs.declared.records.Spec.{Spec}
use Rattle.spec_core.specs.Sig.{Sig}
use Rattle.clause_core.specs.declared.clauses.Clause.{Clause}
use Rattle.clause_core.specs.declared.clauses.Relation.TheVariants.{Same}
use Rattle.clause_core.specs.declared.answers.Why.TheVariants.{Sort, NotCovering}
use Rattle.clause_core.specs.Instances.{variables, with_term}
use Rattle.clause_core.specs.Rows.{Made, Row, child, needs, makes}
use Rattle.clause_core.specs.Patterns.{IsPatternOf, AreCovering}

-- the variable is in the clause, and the patterns are of its sort
pub record ArePatternsFor (sig : Sig) (c : Clause) (n : ℕ) (patterns : List Tree) : Type 0 where
  pub sort : SortId
  pub is : slice_get c.ctx n ≡ Some sort
  pub contexts : List (List SortId)
  pub each : AllZip (IsPatternOf sig sort) contexts patterns

-- the clause with the pattern for a variable, where the pattern's variables, of these sorts, are
-- fresh
abbrev pub covered_by : Clause → ℕ → List SortId × Tree → Clause
covered_by c n q =
    with_term (c.ctx ++ q.0) c n (instance (variables (length c.ctx) (length q.0)) q.1)

module _ (spec : Spec) (c : Clause) where
  abbrev pub cover_child : ℕ → List SortId × Tree → Made
  cover_child n q = child Same (covered_by c n q)

  abbrev pub cover_row : ℕ → List Tree → Row
  cover_row n patterns =
      needs (ArePatternsFor spec.sig c n patterns) Sort (λ are.
      needs (AreCovering spec.sig are.sort patterns) NotCovering (λ covering.
      makes (map (cover_child n) (zip are.contexts patterns)) []))

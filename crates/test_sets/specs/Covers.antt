-- What is answered when patterns are put for a variable of a clause.
use Rattle.std.specs.Prelude.{◌≡◌, ℕ, List, [], ◌∷◌, Any, map, zip}
use Rattle.std.specs.List.{AllByRecursion}
use Rattle.term_core.specs.Tree.{Tree}
use Rattle.term_core.specs.declared.ids.SortId.{SortId}
use Rattle.spec_core.specs.Sig.{Sig}
use Rattle.spec_core.specs.Sorts.{IsValue}
use Rattle.coverage_check.specs.Named.{IsNamed}
use Rattle.clause_core.specs.declared.clauses.Clause.{Clause}
use Rattle.clause_core.specs.Limits.{IsWithin}
use Rattle.clause_core.specs.Tidied.{tidied}
use Rattle.clause_core.specs.Patterns.{IsInstanceOf, AreCovering}
use Rattle.clause_core.specs.Covering.{ArePatternsFor, covered_by}
use Rattle.test_sets.specs.declared.answers.CoverError.{CoverError}
use Rattle.test_sets.specs.declared.answers.CoverError.TheVariants.{NotCovering, Limit, OutOfMemory}

-- each pattern as a row of one column
abbrev pub rows_of : List Tree → List (List Tree)
rows_of patterns = map (λ (p : Tree). p ∷ []) patterns

-- a value of the sort that is an instance of no pattern: the one that is named for them
pub record IsUncovered (sig : Sig) (s : SortId) (patterns : List Tree) (v : Tree) : Type 0 where
  pub value : IsValue sig s v
  pub missing : Any (IsInstanceOf v) patterns → ⊥
  pub named : IsNamed sig (rows_of patterns) (s ∷ []) (v ∷ [])

module _ (sig : Sig) (c : Clause) (n : ℕ) (patterns : List Tree)
    (are : ArePatternsFor sig c n patterns) where
  -- the clause with each pattern for the variable, tidied
  abbrev pub children_of : List Clause
  children_of =
      map (λ (q : List SortId × Tree). tidied (covered_by c n q)) (zip are.contexts patterns)

  -- the patterns cover the variable's sort, and these are the children, which are within the limits
  pub record AreChildren (made : List Clause) : Type 0 where
    pub covering : AreCovering sig are.sort patterns
    pub children : made ≡ children_of
    pub within : AllByRecursion IsWithin made

  -- some value is covered by no pattern; or the patterns cover, and a child passes a limit
  abbrev pub IsRefused : CoverError → Type 0
  IsRefused (NotCovering value) = IsUncovered sig are.sort patterns value
  IsRefused Limit = AreCovering sig are.sort patterns × (AllByRecursion IsWithin children_of → ⊥)
  IsRefused OutOfMemory = Unit {0}

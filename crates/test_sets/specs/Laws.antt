-- Laws of test sets, and of what is answered when patterns are put for a variable.
use Rattle.std.specs.Prelude.{◌≡◌, ℕ, ◌+◌, ◌<◌, ◌≤◌, List, [], Some, Ok, Err, map, length, slice_get}
use Rattle.std.specs.List.{AllZip}
use Rattle.term_core.specs.Tree.{Tree}
use Rattle.term_core.specs.declared.ids.SortId.{SortId}
use Rattle.spec_core.specs.declared.records.Spec.{Spec}
use Rattle.spec_core.specs.Sig.{Sig}
use Rattle.clause_core.specs.declared.clauses.Clause.{Clause}
use Rattle.clause_core.specs.declared.clauses.Relation.TheVariants.{Same}
use Rattle.clause_core.specs.declared.answers.Children.{Children}
use Rattle.clause_core.specs.declared.answers.Why.TheVariants.{NotCovering as not_covering, Limit as past_limit}
use Rattle.clause_core.specs.Patterns.{IsPatternOf, AreCovering}
use Rattle.clause_core.specs.Says.{Says}
use Rattle.clause_core.specs.Covering.{ArePatternsFor, cover_row}
use Rattle.test_sets.specs.declared.answers.CoverError.TheVariants.{NotCovering, Limit}
use Rattle.test_sets.specs.TestSets.{test_set_of, contexts_of}
use Rattle.test_sets.specs.Covers.{AreChildren, IsRefused}

-- the test set of a sort is of patterns of the sort, and each value of the sort is an instance of
-- one of them
pub record TestSetsCover : Type 0 where
  pub patterns :
      (sig : Sig) (s : SortId) →
      AllZip (IsPatternOf sig s) (contexts_of sig s) (test_set_of sig s)
  pub covering : (sig : Sig) (s : SortId) → AreCovering sig s (test_set_of sig s)
  -- so they are patterns for a variable of the sort
  pub fitting :
      (sig : Sig) (s : SortId) (c : Clause) (n : ℕ) → slice_get c.ctx n ≡ Some s →
      ArePatternsFor sig c n (test_set_of sig s)

-- the children of the row, which are all Same
abbrev pub same_children : List Clause → Children
same_children made = record {
  clauses = map (λ (d : Clause). record { clause = d; relation = Same }) made;
  refs = [];
}

-- what is answered is what the row says over nodes; with them there are at most 10,000 nodes
pub record CoverIsItsRow (above : Tree → Tree → Type 0) : Type 0 where
  pub children :
      (spec : Spec) (nodes : List Clause) (c : Clause) (n : ℕ) (patterns : List Tree)
      (are : ArePatternsFor spec.sig c n patterns) (made : List Clause) →
      AreChildren spec.sig c n patterns are made → length nodes + length made ≤ 10000 →
      Says above c nodes (cover_row spec c n patterns) (Ok (same_children made))
  pub full :
      (spec : Spec) (nodes : List Clause) (c : Clause) (n : ℕ) (patterns : List Tree)
      (are : ArePatternsFor spec.sig c n patterns) (made : List Clause) →
      AreChildren spec.sig c n patterns are made → 10000 < length nodes + length made →
      Says above c nodes (cover_row spec c n patterns) (Err past_limit)
  pub limit :
      (spec : Spec) (nodes : List Clause) (c : Clause) (n : ℕ) (patterns : List Tree)
      (are : ArePatternsFor spec.sig c n patterns) →
      IsRefused spec.sig c n patterns are Limit →
      Says above c nodes (cover_row spec c n patterns) (Err past_limit)
  pub not_covering :
      (spec : Spec) (nodes : List Clause) (c : Clause) (n : ℕ) (patterns : List Tree)
      (are : ArePatternsFor spec.sig c n patterns) (value : Tree) →
      IsRefused spec.sig c n patterns are (NotCovering value) →
      Says above c nodes (cover_row spec c n patterns) (Err not_covering)

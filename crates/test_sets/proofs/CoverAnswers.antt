-- What is answered at the sort of the variable that the clause has, over any witness of the premise.
use Rattle.std.proofs.Common.{◌≡◌, ℕ, List, map, ap, ◌∙◌, subst}
use Rattle.std.specs.List.{AllByRecursion}
use Rattle.term_core.specs.Tree.{Tree}
use Rattle.term_core.specs.declared.ids.SortId.{SortId}
use Rattle.spec_core.specs.Sig.{Sig}
use Rattle.clause_core.specs.declared.clauses.Clause.{Clause}
use Rattle.clause_core.specs.Limits.{IsWithin}
use Rattle.clause_core.specs.Patterns.{AreCovering}
use Rattle.clause_core.specs.Covering.{ArePatternsFor}
use Rattle.test_sets.specs.declared.answers.CoverError.TheVariants.{NotCovering, Limit}
use Rattle.test_sets.specs.Children.{child_by}
use Rattle.test_sets.specs.Covers.{IsUncovered, AreChildren, IsRefused, children_of}
use Rattle.test_sets.proofs.ChildrenOfPatterns.{children_are}

module _ (sig : Sig) (c : Clause) (n : ℕ) (ps : List Tree) (are : ArePatternsFor sig c n ps) (s : SortId)
    (at : s ≡ are.sort) where
  made_by : map (child_by sig c n s) ps ≡ children_of sig c n ps are
  made_by = ap (λ r. map (child_by sig c n r) ps) at ∙ children_are sig c n ps are

  pub made_children :
      (made : List Clause) → AreCovering sig s ps → made ≡ map (child_by sig c n s) ps → AllByRecursion IsWithin made →
      AreChildren sig c n ps are made
  made_children made covering is within = record {
    covering = subst (λ r. AreCovering sig r ps) at covering;
    children = is ∙ made_by;
    within = within;
  }

  pub past_limit : AreCovering sig s ps → (AllByRecursion IsWithin (map (child_by sig c n s) ps) → ⊥) →
      IsRefused sig c n ps are Limit
  past_limit covering h = (
    subst (λ r. AreCovering sig r ps) at covering,
    subst (λ ds. AllByRecursion IsWithin ds → ⊥) made_by h,
  )

  pub not_covered : (v : Tree) → IsUncovered sig s ps v → IsRefused sig c n ps are (NotCovering v)
  not_covered v h = subst (λ r. IsUncovered sig r ps v) at h

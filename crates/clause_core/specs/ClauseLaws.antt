-- Laws of tidying and of comparing.
use Rattle.std.specs.Prelude.{◌≡◌, ◌↔◌, List}
use Rattle.term_core.specs.Tree.{Tree}
use Rattle.spec_core.specs.declared.records.Spec.{Spec}
use Rattle.spec_core.specs.Sig.{Sig}
use Rattle.spec_core.specs.Declarations.{IsDeclared}
use Rattle.clause_core.specs.declared.clauses.Clause.{Clause}
use Rattle.clause_core.specs.declared.clauses.Relation.{Relation}
use Rattle.clause_core.specs.Clauses.{ClauseIsSorted}
use Rattle.clause_core.specs.Limits.{IsWithin}
use Rattle.clause_core.specs.Tidied.{variables_of, tidied, IsTidied}
use Rattle.clause_core.specs.Failing.{ClauseFails, values_at}
use Rattle.clause_core.specs.Comparing.{Compares}

pub record TidyingLaws : Type 0 where
  -- what a clause is tidied to is tidied
  pub is_tidied : (c : Clause) → IsTidied (tidied c)
  -- and tidying leaves it as it is
  pub stays : (c : Clause) → IsTidied c → tidied c ≡ c
  -- it is within the limits if the clause is
  pub keeps_limits : (c : Clause) → IsWithin (tidied c) ↔ IsWithin c
  -- it is sorted if the clause is
  pub keeps_sorts :
      (sig : Sig) (c : Clause) → IsDeclared sig → ClauseIsSorted sig c →
      ClauseIsSorted sig (tidied c)
  -- and fails if the clause does, under the values of the variables that stay
  pub keeps_failing :
      (spec : Spec) (c : Clause) (values : List Tree) →
      ClauseIsSorted spec.sig c → ClauseFails spec c values →
      ClauseFails spec (tidied c) (values_at (variables_of c) values)

-- two clauses compare in one way
abbrev pub OneRelation : (Tree → Tree → Type 0) → Type 0
OneRelation above =
    (c d : Clause) (r q : Relation) → Compares above c d r → Compares above c d q → r ≡ q

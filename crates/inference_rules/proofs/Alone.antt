-- A row that compares nothing has one answer by every order.
use Rattle.std.proofs.Common.{ℕ, List, [], ◌∷◌, inl, inr}
use Rattle.std.specs.Prelude.{Result, Ok, Err}
use Rattle.std.specs.List.{AllByRecursion, AllZip}
use Rattle.term_core.specs.Tree.{Tree}
use Rattle.clause_core.specs.declared.clauses.Clause.{Clause}
use Rattle.clause_core.specs.declared.answers.Child.{Child}
use Rattle.clause_core.specs.declared.answers.Children.{Children}
use Rattle.clause_core.specs.declared.answers.Reference.{Reference}
use Rattle.clause_core.specs.declared.answers.Why.{Why}
use Rattle.clause_core.specs.Rows.{Made, Row, child, compared_child, needs, makes}
use Rattle.clause_core.specs.Says.{IsChild, IsReference, Says}
use Rattle.inference_rules.specs.declared.nodes.StepError.{StepError}
use Rattle.inference_rules.specs.declared.nodes.StepError.TheVariants.{Why as because, OutOfMemory as out_of_memory}
use Rattle.inference_rules.specs.Answers.{Answered, AnsweredAlone}

-- the child has the relation that the row gives it
abbrev pub IsRelated : Made → Type 0
IsRelated (child relation d) = Unit {0}
IsRelated (compared_child d) = ⊥

-- the row compares nothing, whatever it finds
abbrev pub ComparesNothing : Row → Type 0
ComparesNothing (needs P why rest) = (p : P) → ComparesNothing (rest p)
ComparesNothing (makes children refs) = AllByRecursion IsRelated children × AllByRecursion (λ (r : ℕ × Clause). ⊥) refs

module _ (above other : Tree → Tree → Type 0) (c : Clause) where
  children_alone : (ms : List Made) (made : List Child) → AllByRecursion IsRelated ms →
      AllZip (IsChild above c) ms made → AllZip (IsChild other c) ms made
  children_alone [] [] a p = tt
  children_alone [] (d ∷ ds) a p = absurd p
  children_alone (m ∷ ms) [] a p = absurd p
  children_alone (child r e ∷ ms) (d ∷ ds) a p = (p.0, children_alone ms ds a.1 p.1)
  children_alone (compared_child e ∷ ms) (d ∷ ds) a p = absurd a.0

  refs_alone : (rs : List (ℕ × Clause)) (made : List Reference) → AllByRecursion (λ (r : ℕ × Clause). ⊥) rs →
      AllZip (IsReference above c) rs made → AllZip (IsReference other c) rs made
  refs_alone [] [] a p = tt
  refs_alone [] (d ∷ ds) a p = absurd p
  refs_alone (r ∷ rs) made a p = absurd a.0

  says_alone : (nodes : List Clause) (row : Row) → ComparesNothing row → (a : Result Children Why) →
      Says above c nodes row a → Says other c nodes row a
  says_alone nodes (needs P why rest) h a (inl p) = inl (p.0, says_alone nodes (rest p.0) (h p.0) a p.1)
  says_alone nodes (needs P why rest) h a (inr p) = inr p
  says_alone nodes (makes ms rs) h a (made, p, q, l) = (
    made,
    children_alone ms made.clauses h.0 p,
    refs_alone rs made.refs h.1 q,
    l,
  )

-- what a step answers that compares nothing is its answer by every order
pub by_any_order :
    (above : Tree → Tree → Type 0) (c : Clause) (row : Row) (answer : Result Children StepError) →
    ComparesNothing row → AnsweredAlone c row answer → Answered above c [] row answer
by_any_order above c row (Ok made) h a = says_alone (λ t s. ⊥) above c [] row h (Ok made) a
by_any_order above c row (Err (because why)) h a = says_alone (λ t s. ⊥) above c [] row h (Err why) a
by_any_order above c row (Err out_of_memory) h a = tt

-- A row answers by its conditions and by what it makes.
use Rattle.std.proofs.Common.{ℕ, List, inl, inr, ap, sym, subst}
use Rattle.std.specs.Prelude.{Result, Ok, Err}
use Rattle.term_core.specs.Tree.{Tree}
use Rattle.clause_core.specs.declared.clauses.Clause.{Clause}
use Rattle.clause_core.specs.declared.answers.Children.{Children}
use Rattle.clause_core.specs.declared.answers.Why.{Why}
use Rattle.clause_core.specs.Rows.{Made, Row, needs, makes}
use Rattle.clause_core.specs.Says.{Says}
use Rattle.inference_rules.specs.declared.nodes.StepError.{StepError}
use Rattle.inference_rules.specs.declared.nodes.StepError.TheVariants.{Why as because, OutOfMemory as out_of_memory}
use Rattle.inference_rules.specs.Answers.{Answered}
use Rattle.inference_rules.specs.Conditions.{Refuses, RefusesWith, Makes}

module _ (above : Tree → Tree → Type 0) (c : Clause) (nodes : List Clause) where
  says_refused : (row : Row) (why : Why) → Refuses row why → Says above c nodes row (Err why)
  says_refused (needs P own rest) why (inl r) = inl (r.0, says_refused (rest r.0) why r.1)
  says_refused (needs P own rest) why (inr r) = inr (r.0, ap (λ w. Err w) r.1)
  says_refused (makes children refs) why r = absurd r

  says_made :
      (row : Row) (children : List Made) (refs : List (ℕ × Clause)) (answer : Result Children Why) →
      Makes row children refs → Says above c nodes (makes children refs) answer → Says above c nodes row answer
  says_made (needs P own rest) children refs answer m s = inl (m.0, says_made (rest m.0) children refs answer m.1 s)
  says_made (makes own others) children refs answer m s =
      subst (λ (z : List Made). Says above c nodes (makes z others) answer) (sym m.0)
      (subst (λ (z : List (ℕ × Clause)). Says above c nodes (makes children z) answer) (sym m.1) s)

  -- a refused row answers with the reason
  pub refused : (row : Row) (error : StepError) → RefusesWith row error → Answered above c nodes row (Err error)
  refused row (because why) r = says_refused row why r
  refused row out_of_memory r = tt

  -- a row whose conditions are met answers as what it makes
  pub made :
      (row : Row) (children : List Made) (refs : List (ℕ × Clause)) (answer : Result Children StepError) →
      Makes row children refs → Answered above c nodes (makes children refs) answer → Answered above c nodes row answer
  made row children refs (Ok x) m s = says_made row children refs (Ok x) m s
  made row children refs (Err (because why)) m s = says_made row children refs (Err why) m s
  made row children refs (Err out_of_memory) m s = tt

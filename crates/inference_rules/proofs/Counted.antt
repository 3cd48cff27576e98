-- What a row says over no nodes, and over the nodes so far.
use Rattle.std.proofs.Common.{◌≡◌, ◌+◌, ◌<◌, ◌≤◌, List, [], inl, inr, refl, ap, sym, subst, length, arith}
use Rattle.std.specs.Prelude.{Result, Ok, Err}
use Rattle.term_core.specs.Tree.{Tree}
use Rattle.clause_core.specs.declared.clauses.Clause.{Clause}
use Rattle.clause_core.specs.declared.answers.Children.{Children}
use Rattle.clause_core.specs.declared.answers.Why.{Why}
use Rattle.clause_core.specs.declared.answers.Why.TheVariants.{Limit}
use Rattle.clause_core.specs.Rows.{Row, needs, makes}
use Rattle.clause_core.specs.Says.{Says}
use Rattle.inference_rules.specs.declared.nodes.StepError.{StepError}
use Rattle.inference_rules.specs.declared.nodes.StepError.TheVariants.{Why as because, OutOfMemory as out_of_memory}
use Rattle.inference_rules.specs.Answers.{Answered}
use Rattle.inference_rules.specs.Counting.{IsCounted}

module _ (above : Tree → Tree → Type 0) (c : Clause) (nodes : List Clause) where
  says_few : (row : Row) (made : Children) → length nodes + length made.clauses ≤ 10000 →
      Says above c [] row (Ok made) → Says above c nodes row (Ok made)
  says_few (needs P why rest) made few (inl p) = inl (p.0, says_few (rest p.0) made few p.1)
  says_few (needs P why rest) made few (inr p) = absurd
      (let e : ◌≡◌ {A = Result Children Why} (Ok made) (Err why) = p.1 in cc)
  says_few (makes children refs) made few (m, p, q, inl l) =
      let e : ◌≡◌ {A = Result Children Why} (Ok made) (Ok m) = l.1 in
      let same : made ≡ m = cc in
      let count : length made.clauses ≡ length m.clauses = ap (λ (x : Children). length x.clauses) same in
      (m, p, q, inl ((l.0.0, omega (arith, few, count)), e))
  says_few (makes children refs) made few (m, p, q, inr l) = absurd
      (let e : ◌≡◌ {A = Result Children Why} (Ok made) (Err Limit) = l.1 in cc)

  says_many : (row : Row) (made : Children) → 10000 < length nodes + length made.clauses →
      Says above c [] row (Ok made) → Says above c nodes row (Err Limit)
  says_many (needs P why rest) made many (inl p) = inl (p.0, says_many (rest p.0) made many p.1)
  says_many (needs P why rest) made many (inr p) = absurd
      (let e : ◌≡◌ {A = Result Children Why} (Ok made) (Err why) = p.1 in cc)
  says_many (makes children refs) made many (m, p, q, inl l) =
      let e : ◌≡◌ {A = Result Children Why} (Ok made) (Ok m) = l.1 in
      let same : made ≡ m = cc in
      let count : length made.clauses ≡ length m.clauses = ap (λ (x : Children). length x.clauses) same in
      (m, p, q, inr (λ a. omega (arith, many, count, a.1), refl))
  says_many (makes children refs) made many (m, p, q, inr l) = absurd
      (let e : ◌≡◌ {A = Result Children Why} (Ok made) (Err Limit) = l.1 in cc)

  says_refused : (row : Row) (why : Why) → Says above c [] row (Err why) → Says above c nodes row (Err why)
  says_refused (needs P reason rest) why (inl p) = inl (p.0, says_refused (rest p.0) why p.1)
  says_refused (needs P reason rest) why (inr p) = inr p
  says_refused (makes children refs) why (m, p, q, inl l) = absurd
      (let e : ◌≡◌ {A = Result Children Why} (Err why) (Ok m) = l.1 in cc)
  says_refused (makes children refs) why (m, p, q, inr l) = (m, p, q, inr (λ a. l.0 (a.0, omega (arith, a.1)), l.1))

  -- what a step answers over no nodes is counted over the nodes so far
  pub over_nodes :
      (row : Row) (first answer : Result Children StepError) → IsCounted (length nodes) first answer →
      Answered above c [] row first → Answered above c nodes row answer
  over_nodes row (Ok made) answer (inl k) a = subst (λ (r : Result Children StepError). Answered above c nodes
      row r) (sym k.1) (says_few row made k.0 a)
  over_nodes row (Ok made) answer (inr k) a = subst (λ (r : Result Children StepError). Answered above c nodes
      row r) (sym k.1) (says_many row made k.0 a)
  over_nodes row (Err (because why)) answer k a = subst
      (λ (r : Result Children StepError). Answered above c nodes row r) (sym k) (says_refused row why a)
  over_nodes row (Err out_of_memory) answer k a = subst
      (λ (r : Result Children StepError). Answered above c nodes row r) (sym k) tt

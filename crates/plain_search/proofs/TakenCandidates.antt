-- What a candidate's step makes, from the step that it stands for and what the table says of that.
use Rattle.std.proofs.Common.{◌≡◌, ℕ, zero, suc, ◌<◌, List, [], ◌∷◌, Option, Some, None, inr, length, get_or, refl}
use Rattle.std.proofs.Common.{sym, ◌∙◌, subst, arith}
use Rattle.std.specs.Prelude.{Contains, Ok, Err, slice_get}
use Rattle.term_core.specs.Tree.{Tree}
use Rattle.spec_core.specs.declared.records.Spec.{Spec}
use Rattle.spec_core.specs.WellSorted.{IsWellSorted}
use Rattle.clause_core.specs.declared.clauses.Clause.{Clause}
use Rattle.clause_core.specs.declared.steps.Step.{Step}
use Rattle.clause_core.specs.declared.answers.Children.{Children}
use Rattle.clause_core.specs.declared.answers.Why.{Why}
use Rattle.clause_core.specs.Says.{Says}
use Rattle.clause_core.specs.StepLaws.{OneAnswer}
use Rattle.clause_core.specs.Steps.{row_of}
use Rattle.inference_rules.specs.declared.nodes.Node.{Node}
use Rattle.inference_rules.specs.Answers.{clauses_of}
use Rattle.plain_search.specs.declared.candidates.Candidate.{Candidate}
use Rattle.plain_search.specs.declared.candidates.Taken.{Taken}
use Rattle.plain_search.specs.Candidates.{IsOnly, IsCandidate, IsMade, IsTaken, IsFirstTaken}
use Rattle.plain_search.proofs.OneCandidates.{possible_full}

-- the clause of the node at a place
pub clause_at : (nodes : List Node) (i : ℕ) (n : Node) → i < length nodes →
    slice_get (clauses_of nodes) i ≡ Some (get_or nodes i n).clause
clause_at [] i n lt = absurd (omega arith)
clause_at (m ∷ nodes) zero n lt = refl
clause_at (m ∷ nodes) (suc i) n lt = clause_at nodes i n (omega arith)

-- what holds of the clauses at two places
pub for_these : (nodes : List Clause) (k : ℕ) (first here : Clause) → slice_get nodes 0 ≡ Some first →
    slice_get nodes k ≡ Some here → (P : Clause → Clause → Type 0) → P first here → (start c : Clause) →
    slice_get nodes 0 ≡ Some start → slice_get nodes k ≡ Some c → P start c
for_these nodes k first here p q P h start c r s =
    let a : Some first ≡ Some start = sym p ∙ r in
    let b : Some here ≡ Some c = sym q ∙ s in
    let first_same : first ≡ start = cc in
    let here_same : here ≡ c = cc in
    subst (λ d. P start d) here_same (subst (λ d. P d here) first_same h)

-- a step that the table refuses makes nothing
pub not_made : (above : Tree → Tree → Type 0) → OneAnswer above → (spec : Spec) → IsWellSorted spec →
    (nodes : List Clause) (c : Clause) (step : Step) (why : Why) →
    Says above c nodes (row_of spec (Contains []) nodes c step) (Err why) → IsMade above spec nodes c step None
not_made above one spec fine nodes c step why p = λ made says. let q : Err why ≡ Ok made = one spec [] nodes c
    step (Err why) (Ok made) fine p says in absurd (cc)

module _ (above : Tree → Tree → Type 0) (spec : Spec) (start : Clause) (nodes : List Clause) (c : Clause)
    (there : slice_get nodes 0 ≡ Some start) (candidate : Candidate) where
  pub none_stands : IsOnly (IsCandidate spec start c candidate) None → IsTaken above spec start nodes c candidate None
  none_stands h = λ step p. h step (possible_full above spec (Contains []) start nodes c there candidate step p)

  pub none_made : (step : Step) → IsOnly (IsCandidate spec start c candidate) (Some step) →
      IsMade above spec nodes c step None → IsTaken above spec start nodes c candidate None
  none_made step h never = λ other p.
      let e = h.1 other (possible_full above spec (Contains []) start nodes c there candidate other p) in
      never p.1 (subst (λ s. Says above c nodes (row_of spec (Contains []) nodes c s) (Ok p.1)) e p.2)

  pub step_made : (step : Step) (made : Children) → IsOnly (IsCandidate spec start c candidate) (Some step) →
      IsMade above spec nodes c step (Some made) →
      IsTaken above spec start nodes c candidate (Some (record { step = step; made = made }))
  step_made step made h m = (h.0.0, m)

  -- of a list of candidates
  pub skipped : (others : List Candidate) (found : Option Taken) →
      IsTaken above spec start nodes c candidate None → IsFirstTaken above spec start nodes c others found →
      IsFirstTaken above spec start nodes c (candidate ∷ others) found
  skipped others (Some taken) n h = inr (n, h)
  skipped others None n h = (n, h)

-- over nodes, at the clauses of the first one and of another one
module _ (above : Tree → Tree → Type 0) (spec : Spec) (nodes : List Node) (node : ℕ) (lt : node < length nodes)
    (n0 n : Node) (candidate : Candidate) where
  abbrev pub first : Clause
  first = (get_or nodes 0 n0).clause

  abbrev pub here : Clause
  here = (get_or nodes node n).clause

  pub first_there : slice_get (clauses_of nodes) 0 ≡ Some first
  first_there = clause_at nodes 0 n0 (omega arith)

  pub here_there : slice_get (clauses_of nodes) node ≡ Some here
  here_there = clause_at nodes node n lt

  pub at_all : (found : Option Taken) → IsTaken above spec first (clauses_of nodes) here candidate found →
      (start c : Clause) → slice_get (clauses_of nodes) 0 ≡ Some start →
      slice_get (clauses_of nodes) node ≡ Some c → IsTaken above spec start (clauses_of nodes) c candidate found
  at_all found h = for_these (clauses_of nodes) node first here first_there here_there
      (λ d e. IsTaken above spec d (clauses_of nodes) e candidate found) h

  only_here : (r : Spec) (o p : Option Step) → r ≡ spec → o ≡ p →
      IsOnly (IsCandidate r first here candidate) o → IsOnly (IsCandidate spec first here candidate) p
  only_here r o p its e h = subst (λ q. IsOnly (IsCandidate spec first here candidate) q) e
      (subst (λ (s : Spec). IsOnly (IsCandidate s first here candidate) o) its h)

  pub stands_none : (r : Spec) (o : Option Step) → r ≡ spec → o ≡ None →
      IsOnly (IsCandidate r first here candidate) o → (start c : Clause) →
      slice_get (clauses_of nodes) 0 ≡ Some start → slice_get (clauses_of nodes) node ≡ Some c →
      IsTaken above spec start (clauses_of nodes) c candidate None
  stands_none r o its e h = at_all None (none_stands above spec first (clauses_of nodes) here first_there
      candidate (only_here r o None its e h))

  module _ (r : Spec) (o : Option Step) (step : Step) (its : r ≡ spec) (e : o ≡ Some step)
      (h : IsOnly (IsCandidate r first here candidate) o) (found : Option Children) (answer : (c : Clause) →
      slice_get (clauses_of nodes) node ≡ Some c → IsMade above spec (clauses_of nodes) c step found) where
    pub made_none : found ≡ None → (start c : Clause) → slice_get (clauses_of nodes) 0 ≡ Some start →
        slice_get (clauses_of nodes) node ≡ Some c → IsTaken above spec start (clauses_of nodes) c candidate None
    made_none is = at_all None (none_made above spec first (clauses_of nodes) here first_there candidate step
        (only_here r o (Some step) its e h) (subst (λ q. IsMade above spec (clauses_of nodes) here step q) is
        (answer here here_there)))

    pub made_some : (made : Children) → found ≡ Some made → (start c : Clause) →
        slice_get (clauses_of nodes) 0 ≡ Some start → slice_get (clauses_of nodes) node ≡ Some c →
        IsTaken above spec start (clauses_of nodes) c candidate (Some (record { step = step; made = made }))
    made_some made is = at_all (Some (record { step = step; made = made }))
        (step_made above spec first (clauses_of nodes) here first_there candidate step made
        (only_here r o (Some step) its e h) (subst (λ q. IsMade above spec (clauses_of nodes) here step q) is
        (answer here here_there)))

-- What is answered at a node by what is answered of its clause, and what follows if that is Ok.
use Rattle.std.proofs.Common.{◌≡◌, ℕ, List, [], Some, length, sym, ◌∙◌, subst}
use Rattle.std.specs.Prelude.{Contains, Result, Ok, Err, IfOk, slice_get}
use Rattle.std.proofs.lemmas.List.{length-map}
use Rattle.term_core.specs.Tree.{Tree}
use Rattle.spec_core.specs.declared.records.Spec.{Spec}
use Rattle.spec_core.specs.WellSorted.{IsWellSorted}
use Rattle.clause_core.specs.declared.clauses.Clause.{Clause}
use Rattle.clause_core.specs.declared.answers.Children.{Children}
use Rattle.clause_core.specs.declared.steps.Step.{Step}
use Rattle.clause_core.specs.Admitted.{IsAdmitted}
use Rattle.clause_core.specs.Failing.{ClauseFails}
use Rattle.clause_core.specs.Steps.{row_of}
use Rattle.descent.specs.SortedChildren.{IsNode, ChildrenAreSorted}
use Rattle.descent.specs.Descent.{AreTrue, GoesOn, StepsDescend}
use Rattle.inference_rules.specs.declared.nodes.Node.{Node}
use Rattle.inference_rules.specs.declared.nodes.StepError.{StepError}
use Rattle.inference_rules.specs.Answers.{Answered, clauses_of}
use Rattle.inference_rules.specs.Counting.{IsCounted}
use Rattle.inference_rules.specs.Nodes.{AreNodes, clauses_made}
use Rattle.inference_rules.proofs.Counted.{over_nodes}
use Rattle.inference_rules.proofs.NodeLists.{made_nodes}

same_clause : (clauses : List Clause) (i : ℕ) (c d : Clause) → slice_get clauses i ≡ Some c →
    slice_get clauses i ≡ Some d → c ≡ d
same_clause clauses i c d p q = let e : Some c ≡ Some d = sym p ∙ q in cc

module _ (above : Tree → Tree → Type 0) (spec : Spec) (numbers : List ℕ) (nodes : List Node) (node : ℕ)
    (step : Step) where
  -- the row of the step at a clause, and its answer
  abbrev pub AnsweredAt : Clause → Result Children StepError → Type 0
  AnsweredAt c answer = Answered above c (clauses_of nodes)
      (row_of spec (Contains numbers) (clauses_of nodes) c step) answer

  pub answered_at :
      (here : Clause) → slice_get (clauses_of nodes) node ≡ Some here →
      (first answer : Result Children StepError) → IsCounted (length nodes) first answer →
      Answered above here [] (row_of spec (Contains numbers) (clauses_of nodes) here step) first →
      (c : Clause) → slice_get (clauses_of nodes) node ≡ Some c → AnsweredAt c answer
  answered_at here is first answer count h c at =
      let same : here ≡ c = same_clause (clauses_of nodes) node here c is at in
      let long : length nodes ≡ length (clauses_of nodes) = sym (length-map nodes (λ (n : Node). n.clause)) in
      subst (λ d. AnsweredAt d answer) same
      (over_nodes above here (clauses_of nodes) (row_of spec (Contains numbers) (clauses_of nodes) here
      step) first answer (subst (λ n. IsCounted n first answer) long count) h)

  -- what is made can be in nodes
  pub nodes_made :
      ChildrenAreSorted above → IsWellSorted spec → AreNodes spec.sig (clauses_of nodes) → (here : Clause) →
      IsNode spec.sig here →
      (answer : Result Children StepError) → AnsweredAt here answer →
      IfOk answer (λ made. AreNodes spec.sig (clauses_made made))
  nodes_made law fine are here is (Ok made) h = made_nodes spec.sig made
      (law step spec numbers (clauses_of nodes) here made fine (λ j d at. (are j d at).sorted) is.sorted h)
  nodes_made law fine are here is (Err error) h = tt

  -- a failing instance goes on by what is made
  pub goes_on :
      (rank : ℕ → ℕ → Tree → ℕ → Type 0) → StepsDescend above rank → IsWellSorted spec →
      AreNodes spec.sig (clauses_of nodes) →
      (answer : Result Children StepError) → ((c : Clause) → slice_get (clauses_of nodes) node ≡ Some c →
      AnsweredAt c answer) →
      IfOk answer (λ made. (c : Clause) (values : List Tree) → slice_get (clauses_of nodes) node ≡ Some c →
      IsAdmitted above spec → AreTrue spec numbers → ClauseFails spec c values →
      GoesOn rank spec (clauses_of nodes) c values made)
  goes_on rank law fine are (Ok made) h = λ c values at admitted true fails. law step spec numbers
      (clauses_of nodes) c made values fine admitted true (λ j d is. (are j d is).sorted) (are node c at).sorted
      (h c at) fails
  goes_on rank law fine are (Err error) h = tt

-- Steps that are taken one after the other.
use Rattle.std.proofs.Common.{◌≡◌, ℕ, zero, suc, ◌+◌, ◌≤◌, ◌<◌, List, [], ◌∷◌, ◌++◌, Some, inl, inr, sym, ◌∙◌, ap}
use Rattle.std.proofs.Common.{subst, arith, length, length-append, get_or}
use Rattle.std.specs.Prelude.{Result, Ok, Err, flat_map, slice_get}
use Rattle.std.proofs.lemmas.Grind.{flat_map-append}
use Rattle.std.proofs.lemmas.List.{append-nil, length-map}
use Rattle.std.proofs.lemmas.Option.{none-some, same_Some, slice_get-get_or}
use Rattle.term_core.specs.Tree.{Tree}
use Rattle.spec_core.specs.declared.records.Spec.{Spec}
use Rattle.spec_core.specs.Sig.{Sig}
use Rattle.clause_core.specs.declared.clauses.Clause.{Clause}
use Rattle.clause_core.specs.declared.steps.Step.{Step}
use Rattle.clause_core.specs.declared.answers.Child.{Child}
use Rattle.clause_core.specs.declared.answers.Children.{Children}
use Rattle.clause_core.specs.declared.answers.Why.TheVariants.{Limit}
use Rattle.clause_core.specs.Rows.{Row, needs, makes}
use Rattle.clause_core.specs.Says.{Says}
use Rattle.clause_core.specs.Steps.{row_of}
use Rattle.descent.specs.SortedChildren.{IsNode}
use Rattle.acceptance.specs.Blocks.{nodes_of}
use Rattle.inference_rules.specs.declared.nodes.Node.{Node}
use Rattle.inference_rules.specs.declared.nodes.StepError.{StepError}
use Rattle.inference_rules.specs.declared.nodes.StepError.TheVariants.{Why as because, OutOfMemory as no_memory}
use Rattle.inference_rules.specs.Answers.{Answered, clauses_of}
use Rattle.inference_rules.specs.Nodes.{AreNodes, clauses_made}
use Rattle.block_links.specs.Links.{links_of, without_sides}
use Rattle.block_steps.specs.declared.taken_steps.TakenSteps.{TakenSteps}
use Rattle.block_steps.specs.Taken.{TakesStep, AreFewNodes}

-- there are as many clauses as nodes
pub length-clauses : (nodes : List Node) → length (clauses_of nodes) ≡ length nodes
length-clauses nodes = length-map nodes (λ (n : Node). n.clause)

-- with the children of a step there are few nodes
few_made :
    (above : Tree → Tree → Type 0) (c : Clause) (nodes : List Clause) (row : Row) (m : Children) →
    Says above c nodes row (Ok m) → length nodes + length m.clauses ≤ 10000
few_made above c nodes (needs P why rest) m (inl (p, s)) = few_made above c nodes (rest p) m s
few_made above c nodes (needs P why rest) m (inr (n, e)) = absurd (let q : Ok m ≡ Err why = e in cc)
few_made above c nodes (makes children refs) m (made, cs, rs, inl (few, e)) =
    let q : Ok m ≡ Ok made = e in
    let k : m ≡ made = cc in
    let n : length m.clauses ≡ length made.clauses = ap (λ (x : Children). length x.clauses) k in
    omega (arith, few.1, n)
few_made above c nodes (makes children refs) m (made, cs, rs, inr (few, e)) =
    absurd (let q : Ok m ≡ Err Limit = e in cc)

-- one clause that can be a node, and those of two lists
pub one_node : (sig : Sig) (c : Clause) → IsNode sig c → AreNodes sig (c ∷ [])
one_node sig c h zero d at = subst (IsNode sig) (same_Some c d at) h
one_node sig c h (suc j) d at = absurd (none-some d at)

pub nodes_joined :
    (sig : Sig) (xs ys : List Clause) → AreNodes sig xs → AreNodes sig ys →
    AreNodes sig (xs ++ ys)
nodes_joined sig [] ys h k j d at = k j d at
nodes_joined sig (x ∷ xs) ys h k zero d at = h 0 d at
nodes_joined sig (x ∷ xs) ys h k (suc j) d at =
    nodes_joined sig xs ys (λ i e p. h (suc i) e p) k j d at

-- the nodes of a block with what one step more makes
pub nodes_more :
    (start : Clause) (made : List Children) (m : Children) →
    nodes_of start (made ++ m ∷ []) ≡ nodes_of start made ++ clauses_made m
nodes_more start made m =
    ap (λ cs. start ∷ cs)
    (flat_map-append clauses_made made (m ∷ [])
    ∙ ap (λ cs. flat_map clauses_made made ++ cs) (append-nil (clauses_made m)))

module _ (above : Tree → Tree → Type 0) (spec : Spec) (usable : ℕ → Type 0) where
  -- what the step's row says of node k of these nodes is answered
  abbrev pub AnsweredAt : List Node → ℕ → Step → Result Children StepError → Type 0
  AnsweredAt nodes k step answer =
      (c : Clause) → slice_get (clauses_of nodes) k ≡ Some c →
      Answered above c (clauses_of nodes) (row_of spec usable (clauses_of nodes) c step) answer

  -- a block that begins with a node has one
  pub few_first :
      (taken : TakenSteps) (start : Clause) → IsNode spec.sig start →
      clauses_of taken.nodes.items ≡ start ∷ [] → taken.links.items ≡ [] →
      AreFewNodes above spec usable taken
  few_first taken start is nodes links =
      let long = length-clauses taken.nodes.items in
      let one : length (clauses_of taken.nodes.items) ≡ 1 = ap length nodes in
      let none : length taken.links.items ≡ 0 = ap length links in
      record {
        nodes = subst (AreNodes spec.sig) (sym nodes) (one_node spec.sig start is);
        few = omega (arith, long, one);
        reached = omega (arith, none);
      }

  module _ (old : TakenSteps) (step : Step) (lt : length old.links.items < length old.nodes.items) where
    -- the clause of the next node
    abbrev next : Clause
    next = get_or (clauses_of old.nodes.items) (length old.links.items) without_sides

    next_is : slice_get (clauses_of old.nodes.items) (length old.links.items) ≡ Some next
    next_is =
        slice_get-get_or (clauses_of old.nodes.items) (length old.links.items) without_sides
        (omega (arith, length-clauses old.nodes.items, lt))

    -- a step whose node is there is refused
    pub step_stops :
        (new : TakenSteps) (error : StepError) →
        AnsweredAt old.nodes.items (length old.links.items) step (Err error) →
        TakesStep above spec usable old new step (Err error)
    step_stops new (because why) says = inr (next, next_is, says next next_is)
    step_stops new no_memory says = tt

    -- the children of a step whose node is there are added
    pub step_taken :
        (new : TakenSteps) (m : Children) → AreNodes spec.sig (clauses_of old.nodes.items) →
        AnsweredAt old.nodes.items (length old.links.items) step (Ok m) →
        AreNodes spec.sig (clauses_made m) →
        clauses_of new.nodes.items ≡ clauses_of old.nodes.items ++ clauses_made m →
        new.links.items ≡ old.links.items ++ links_of m ∷ [] →
        TakesStep above spec usable old new step (Ok tt)
    step_taken new m are says made nodes links =
        let clauses = clauses_of old.nodes.items in
        let long = length-clauses old.nodes.items in
        let news = length-clauses new.nodes.items in
        let sum : length clauses + length m.clauses ≤ 10000 =
        few_made above next clauses (row_of spec usable clauses next step) m (says next next_is) in
        let many : length (clauses_of new.nodes.items) ≡ length clauses + length m.clauses =
        ap length nodes ∙ length-append clauses (clauses_made m)
        ∙ ap (λ n. length clauses + n) (length-map m.clauses (λ (d : Child). d.clause)) in
        let more : length new.links.items ≡ length old.links.items + 1 =
        ap length links ∙ length-append old.links.items (links_of m ∷ []) in (
          m,
          record { clause = next; is = next_is; says = says next next_is },
          nodes,
          links,
          record {
            nodes =
                subst (AreNodes spec.sig) (sym nodes)
                (nodes_joined spec.sig clauses (clauses_made m) are made);
            few = omega (arith, sum, news, many);
            reached = omega (arith, lt, long, news, many, more);
          },
        )

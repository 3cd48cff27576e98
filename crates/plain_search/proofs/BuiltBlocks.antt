-- What the builder has made of a block: its first steps, with nodes that can be in a block.
use Rattle.std.proofs.Common.{◌≡◌, ℕ, zero, suc, ◌-◌, ◌<◌, ◌≤◌, List, [], ◌∷◌, ◌++◌, Option, Some, None, length}
use Rattle.std.proofs.Common.{get_or, ap, sym, ◌∙◌, subst, arith}
use Rattle.std.specs.Prelude.{IfSome, slice_get}
use Rattle.std.proofs.lemmas.List.{length-append}
use Rattle.std.proofs.lemmas.Option.{slice_get-get_or}
use Rattle.term_core.specs.Tree.{Tree}
use Rattle.spec_core.specs.declared.records.Goal.{Goal}
use Rattle.spec_core.specs.declared.records.Spec.{Spec}
use Rattle.spec_core.specs.Sig.{Sig}
use Rattle.spec_core.specs.WellSorted.{IsWellSorted, GoalIsSorted}
use Rattle.clause_core.specs.declared.clauses.Clause.{Clause}
use Rattle.clause_core.specs.declared.steps.Step.{Step}
use Rattle.clause_core.specs.declared.answers.Children.{Children}
use Rattle.clause_core.specs.ClauseLaws.{TidyingLaws}
use Rattle.clause_core.specs.StepLaws.{OneAnswer}
use Rattle.clause_core.specs.Tidied.{goal_clause}
use Rattle.descent.specs.SortedChildren.{IsNode}
use Rattle.inference_rules.specs.Nodes.{AreNodes, clauses_made}
use Rattle.acceptance.specs.Blocks.{clauses_of}
use Rattle.block_steps.proofs.Taking.{nodes_joined, one_node}
use Rattle.plain_search.specs.declared.candidates.Taken.{Taken}
use Rattle.plain_search.specs.Blocks.{IsSplit, IsPlainBlock}
use Rattle.plain_proof.specs.FirstPlain.{HasPlain}
use Rattle.plain_search.specs.Candidates.{IsStart, IsMade, IsNext}
use Rattle.plain_search.specs.Laws.{OneChoice, HasBlock, PlainBlocks}
use Rattle.plain_search.proofs.FirstNodes.{first_is_node, first_premises, first_is_start}
use Rattle.plain_search.proofs.Following.{IsPart, whole, splits_here, begun, some_chosen, followed}

-- what the split makes, over nodes that are the goal's alone
pub made_first : (above : Tree → Tree → Type 0) (spec : Spec) (start : Clause) (nodes : List Clause) →
    nodes ≡ start ∷ [] → (step : Step) (found answer : Option Children) → found ≡ answer →
    ((c : Clause) → slice_get nodes 0 ≡ Some c → IsMade above spec nodes c step found) →
    IsMade above spec (start ∷ []) start step answer
made_first above spec start nodes e step found answer is h =
    let f = h start (ap (λ ns. slice_get ns 0) e) in
    subst (λ ns. IsMade above spec ns start step answer) e (subst (λ o. IsMade above spec nodes start step o) is f)

module _ (above : Tree → Tree → Type 0) (spec : Spec) (goal : Goal) (x : ℕ) where
  pub record IsBuilt (first : List Step) (nodes : List Clause) : Type 0 where
    pub steps : List Step
    pub block : IsPlainBlock above spec goal x steps
    pub few : length steps ≤ 1001
    pub part : IsPart above spec goal x steps block first nodes
    pub begun_with : 1 ≤ length first
    pub nodes_stand : AreNodes spec.sig nodes

  pub built_few : (first : List Step) (nodes : List Clause) → IsBuilt first nodes → length first ≤ 1001
  built_few first nodes b = omega (arith, b.few, b.part.some)

  -- the first node is that of the goal
  pub built_start : (first : List Step) (nodes : List Clause) → IsBuilt first nodes →
      slice_get nodes 0 ≡ Some (goal_clause goal)
  built_start first nodes b = ap (λ ns. slice_get ns 0) b.part.nodes_are

  -- if each node has its step the block is made
  pub built_whole : (first : List Step) (nodes : List Clause) → IsBuilt first nodes →
      length nodes ≤ length first → IsPlainBlock above spec goal x first
  built_whole first nodes b past =
      let e = whole above spec goal x b.steps b.block first nodes b.part past in
      subst (λ ss. IsPlainBlock above spec goal x ss) (sym e) b.block

  module _ (one_choice : OneChoice above) (one_answer : OneAnswer above) (fine : IsWellSorted spec)
      (node : IsNode spec.sig (goal_clause goal)) (premises : (goal_clause goal).premises ≡ []) where
    module _ (steps : List Step) (block : IsPlainBlock above spec goal x steps) (few : length steps ≤ 1001)
        (split : Step) (splits : IsSplit spec goal x split) where
      pub not_split : IsMade above spec (goal_clause goal ∷ []) (goal_clause goal) split None → ⊥
      not_split never = splits_here above spec goal x steps block one_choice one_answer fine node.is_tidied
          premises split splits never

      pub built_first : (made : Children) →
          IsMade above spec (goal_clause goal ∷ []) (goal_clause goal) split (Some made) →
          AreNodes spec.sig (clauses_made made) → IsBuilt (split ∷ []) ((goal_clause goal ∷ []) ++ clauses_of made)
      built_first made says stand = record {
        steps = steps;
        block = block;
        few = few;
        part = begun above spec goal x steps block one_choice one_answer fine node.is_tidied premises split
            splits made says;
        begun_with = omega arith;
        nodes_stand = nodes_joined spec.sig (goal_clause goal ∷ []) (clauses_of made)
            (one_node spec.sig (goal_clause goal) node) stand;
      }

    module _ (first : List Step) (nodes : List Clause) (b : IsBuilt first nodes)
        (lt : length first < length nodes) where
      abbrev here : Clause
      here = get_or nodes (length first) (goal_clause goal)

      there : slice_get nodes (length first) ≡ Some here
      there = slice_get-get_or nodes (length first) (goal_clause goal) lt

      later : length first ≡ suc (length first - 1)
      later = let h = b.begun_with in omega arith

      pub not_chosen : ((start c : Clause) → slice_get nodes 0 ≡ Some start →
          slice_get nodes (length first) ≡ Some c → IsNext above spec start nodes c None) → ⊥
      not_chosen h =
          some_chosen above spec goal x b.steps b.block one_choice one_answer fine node.is_tidied premises first
          nodes b.part (length first - 1) later here there
          (h (goal_clause goal) here (built_start first nodes b) there)

      pub built_next : (taken : Taken) → ((start c : Clause) → slice_get nodes 0 ≡ Some start →
          slice_get nodes (length first) ≡ Some c → IsNext above spec start nodes c (Some taken)) →
          AreNodes spec.sig (clauses_made taken.made) →
          IsBuilt (first ++ taken.step ∷ []) (nodes ++ clauses_of taken.made)
      built_next taken h stand =
          let n = h (goal_clause goal) here (built_start first nodes b) there in
          record {
            steps = b.steps;
            block = b.block;
            few = b.few;
            part = followed above spec goal x b.steps b.block one_choice one_answer fine node.is_tidied premises
                first nodes b.part (length first - 1) later here there taken.step taken.made n.0 n.1;
            begun_with = omega (arith, length-append first (taken.step ∷ []));
            nodes_stand = nodes_joined spec.sig nodes (clauses_of taken.made) b.nodes_stand stand;
          }

-- what is next, over the same nodes and at the same number
pub next_over :
    (above : Tree → Tree → Type 0) (spec : Spec) (nodes others : List Clause) → nodes ≡ others → (k j : ℕ) →
    k ≡ j → (found answer : Option Taken) → found ≡ answer →
    ((start c : Clause) → slice_get nodes 0 ≡ Some start → slice_get nodes k ≡ Some c →
    IsNext above spec start nodes c found) →
    (start c : Clause) → slice_get others 0 ≡ Some start → slice_get others j ≡ Some c →
    IsNext above spec start others c answer
next_over above spec nodes others e k j n found answer is h =
    let P = λ (ns : List Clause) (i : ℕ) (o : Option Taken). (start c : Clause) → slice_get ns 0 ≡ Some start →
    slice_get ns i ≡ Some c → IsNext above spec start ns c o in
    subst (λ ns. P ns j answer) e (subst (λ i. P nodes i answer) n (subst (λ o. P nodes k o) is h))

-- a goal with a plain proof on x
module _ (above : Tree → Tree → Type 0) (law : PlainBlocks above) (one_choice : OneChoice above)
    (one_answer : OneAnswer above) (laws : TidyingLaws) (spec : Spec) (fine : IsWellSorted spec) (goal : Goal)
    (sorted : GoalIsSorted spec.sig goal) (x : ℕ) (plain : HasPlain spec goal 1000 x) where
  node : IsNode spec.sig (goal_clause goal)
  node = first_is_node laws spec fine goal sorted x plain.0 plain.1

  premises : (goal_clause goal).premises ≡ []
  premises = first_premises laws spec fine goal sorted x plain.0 plain.1

  the_block : HasBlock above spec goal x plain.0
  the_block = let le = plain.2 in law spec goal x plain.0 fine sorted plain.1 (omega arith)

  few : length the_block.steps ≤ 1001
  few = let le = plain.2 in let n = the_block.few in omega arith

  pub start_stands : (ns : List Clause) → ns ≡ goal_clause goal ∷ [] → AreNodes spec.sig ns
  start_stands ns e = subst (λ ms. AreNodes spec.sig ms) (sym e) (one_node spec.sig (goal_clause goal) node)

  module _ (ns : List Clause) (e : ns ≡ goal_clause goal ∷ []) (split : Step)
      (splits : IsSplit spec goal x split) (found : Option Children) (answer : (c : Clause) →
      slice_get ns 0 ≡ Some c → IsMade above spec ns c split found) where
    pub split_made : found ≡ None → ⊥
    split_made is = not_split above spec goal x one_choice one_answer fine node premises the_block.steps
        the_block.plain few split splits (made_first above spec (goal_clause goal) ns e split found None is answer)

    pub begins : (made : Children) → found ≡ Some made →
        IfSome found (λ (m : Children). AreNodes spec.sig (clauses_made m)) → (first : List Step) →
        first ≡ split ∷ [] → (nodes : List Clause) → nodes ≡ ns ++ clauses_made made →
        IsBuilt above spec goal x first nodes
    begins made is stand first s nodes n =
        let stands : AreNodes spec.sig (clauses_made made) = subst
        (λ (o : Option Children). IfSome o (λ m. AreNodes spec.sig (clauses_made m))) is stand in
        let b = built_first above spec goal x one_choice one_answer fine node premises the_block.steps
        the_block.plain few split splits made (made_first above spec (goal_clause goal) ns e split found
        (Some made) is answer) stands in
        subst (λ ss. IsBuilt above spec goal x ss nodes) (sym s)
        (subst (λ ms. IsBuilt above spec goal x (split ∷ []) ms) (sym (n ∙ ap (λ ms. ms ++ clauses_made made) e)) b)

  module _ (first : List Step) (nodes : List Clause) (b : IsBuilt above spec goal x first nodes) where
    pub starts : (start : Clause) → slice_get nodes 0 ≡ Some start → IsStart start
    starts start at =
        let q : Some (goal_clause goal) ≡ Some start = sym (built_start above spec goal x first nodes b) ∙ at in
        let same : goal_clause goal ≡ start = cc in
        subst (λ d. IsStart d) same (first_is_start laws spec fine goal sorted x plain.0 plain.1)

    module _ (lt : length first < length nodes) (ns : List Clause) (e : ns ≡ nodes) (k : ℕ)
        (n : k ≡ length first) (found : Option Taken) (answer : (start c : Clause) →
        slice_get ns 0 ≡ Some start → slice_get ns k ≡ Some c → IsNext above spec start ns c found) where
      pub some_next : found ≡ None → ⊥
      some_next is = not_chosen above spec goal x one_choice one_answer fine node premises first nodes b lt
          (next_over above spec ns nodes e k (length first) n found None is answer)

      pub goes_further : (taken : Taken) → found ≡ Some taken →
          IfSome found (λ (t : Taken). AreNodes spec.sig (clauses_made t.made)) → (ss : List Step) →
          ss ≡ first ++ taken.step ∷ [] → (ms : List Clause) → ms ≡ nodes ++ clauses_made taken.made →
          IsBuilt above spec goal x ss ms
      goes_further taken is stand ss s ms m =
          let stands : AreNodes spec.sig (clauses_made taken.made) = subst
          (λ (o : Option Taken). IfSome o (λ t. AreNodes spec.sig (clauses_made t.made))) is stand in
          let r = built_next above spec goal x one_choice one_answer fine node premises first nodes b lt taken
          (next_over above spec ns nodes e k (length first) n found (Some taken) is answer) stands in
          subst (λ z. IsBuilt above spec goal x z ms) (sym s)
          (subst (λ z. IsBuilt above spec goal x (first ++ taken.step ∷ []) z) (sym m) r)

-- Steps that are taken one after the other, while clauses are let go.
use Rattle.std.proofs.Common.{◌≡◌, ℕ, ◌+◌, ◌<◌, List, [], ◌∷◌, ◌++◌, Some, inl, inr, refl, sym, ◌∙◌, ap, subst, arith}
use Rattle.std.proofs.Common.{length, length-append, take, get_or}
use Rattle.std.specs.Prelude.{Result, Ok, Err, slice_get}
use Rattle.std.proofs.lemmas.List.{length-map, length-take-le, map-append}
use Rattle.std.proofs.lemmas.Option.{slice_get_read}
use Rattle.term_core.proofs.Items.{taken_next}
use Rattle.term_core.specs.Tree.{Tree}
use Rattle.spec_core.specs.declared.records.Spec.{Spec}
use Rattle.clause_core.specs.declared.clauses.Clause.{Clause}
use Rattle.clause_core.specs.declared.steps.Step.{Step}
use Rattle.clause_core.specs.declared.answers.Children.{Children}
use Rattle.clause_core.specs.declared.answers.Why.{Why}
use Rattle.clause_core.specs.Says.{Says}
use Rattle.descent.specs.SortedChildren.{IsNode}
use Rattle.clause_core.specs.Steps.{row_of}
use Rattle.acceptance.specs.Blocks.{nodes_of, StepMakes, StepsMake}
use Rattle.acceptance.specs.StepRefusals.{StepIsRefused}
use Rattle.acceptance.proofs.Longer.{steps_longer}
use Rattle.acceptance.proofs.WholeBlocks.{as_many}
use Rattle.inference_rules.specs.declared.nodes.StepError.{StepError}
use Rattle.inference_rules.specs.declared.nodes.StepError.TheVariants.{Why as because, OutOfMemory as no_memory}
use Rattle.inference_rules.specs.Answers.{clauses_of}
use Rattle.inference_rules.specs.Nodes.{clauses_made}
use Rattle.replay_check.specs.declared.answers.Stop.{Stop}
use Rattle.replay_check.specs.declared.answers.Stop.TheVariants.{Refused, OutOfMemory}
use Rattle.block_links.specs.Links.{links_of}
use Rattle.block_steps.specs.declared.taken_steps.TakenSteps.{TakenSteps}
use Rattle.block_steps.specs.Taken.{TakesStep, AreFewNodes}
use Rattle.block_steps.proofs.Taking.{few_first, length-clauses, nodes_more}
use Rattle.replay_check.specs.Kept.{Agree, IsNeededBehind, IsNeededFrom, LetsGo, TellLastUses, referred}
use Rattle.replay_check.specs.Taken.{AreTaken, StopsAt, FindsSteps}
use Rattle.replay_check.proofs.KeptClauses.{needed_before, needed_behind, same_joined, step_over}

module _ (above : Tree → Tree → Type 0) (spec : Spec) (usable : ℕ → Type 0) where
  -- when clauses are let go there are few nodes still
  still_few : (needed : ℕ → Type 0) (old new : TakenSteps) → AreFewNodes above spec usable old →
      LetsGo needed old new → AreFewNodes above spec usable new
  still_few needed old new few go =
      let olds = length-clauses old.nodes.items in
      let news = length-clauses new.nodes.items in
      record {
        nodes = go.nodes spec.sig few.nodes;
        few = omega (arith, few.few, olds, news, go.kept.long);
        reached = omega (arith, few.reached, olds, news, go.kept.long, ap length go.links);
      }

  module _ (start : Clause) (steps : List Step) (i : ℕ) (step : Step) (lt : i < length steps)
      (is : step ≡ get_or steps i step) (old : TakenSteps) (taken : AreTaken above spec usable start steps i old) where
    -- the next step is that of the node after those with links
    reached : length old.links.items ≡ i
    reached = ap length taken.links ∙ length-map taken.made links_of
        ∙ as_many above spec usable (start ∷ []) 0 (take i steps) taken.made taken.makes
        ∙ length-take-le i steps (omega (arith, lt))

    step_at : slice_get steps i ≡ Some step
    step_at = slice_get_read steps (length steps) i step refl lt is

    -- the clause of the node and that of the one that the step refers to are kept
    kept_here : slice_get (clauses_of old.nodes.items) (length old.links.items) ≡ slice_get
        (nodes_of start taken.made) i
    kept_here = subst (λ k. slice_get (clauses_of old.nodes.items) k ≡ slice_get (nodes_of start taken.made) i)
        (sym reached) (taken.nodes.same i (inl (omega arith)))

    kept_there : (k : ℕ) → referred step ≡ Some k →
        slice_get (clauses_of old.nodes.items) k ≡ slice_get (nodes_of start taken.made) k
    kept_there k refers = taken.nodes.same k (inr (i, step, omega arith, step_at, refers))

    -- so the table says the same over the nodes that are made
    says_made : (c : Clause) (answer : Result Children Why) →
        Says above c (clauses_of old.nodes.items) (row_of spec usable (clauses_of old.nodes.items) c step)
        answer → Says above c (nodes_of start taken.made) (row_of spec usable (nodes_of start taken.made) c step) answer
    says_made c answer h = step_over above c (clauses_of old.nodes.items) (nodes_of start taken.made)
        taken.nodes.long spec usable step answer kept_there h

    pub node_there : (new : TakenSteps) → TakesStep above spec usable old new step (Ok tt) → i < length new.nodes.items
    node_there new (m, taking, nodes, links, few) =
        let more : length new.links.items ≡ length old.links.items + 1 = ap length links
        ∙ length-append old.links.items (links_of m ∷ []) in
        omega (arith, few.reached, reached, more)

    -- the children after the nodes that are kept
    kept_more : (needed : ℕ → Type 0) (between new : TakenSteps) (m : Children) →
        clauses_of between.nodes.items ≡ clauses_of old.nodes.items ++ clauses_made m →
        LetsGo needed between new → ((j : ℕ) → IsNeededFrom steps (i + 1) j → needed j) →
        Agree (IsNeededFrom steps (i + 1)) (clauses_of new.nodes.items) (nodes_of start (taken.made ++ m ∷ []))
    kept_more needed between new m nodes go behind =
        let all = nodes_more start taken.made m in
        let two : length (clauses_of old.nodes.items ++ clauses_made m) ≡ length (clauses_of old.nodes.items) +
        length (clauses_made m) = length-append (clauses_of old.nodes.items) (clauses_made m) in
        let sum : length (nodes_of start taken.made ++ clauses_made m) ≡ length (nodes_of start taken.made) +
        length (clauses_made m) = length-append (nodes_of start taken.made) (clauses_made m) in
        let more : length (clauses_of old.nodes.items) + length (clauses_made m) ≡ length
        (nodes_of start taken.made) + length (clauses_made m) = ap (λ n. n + length (clauses_made m))
        taken.nodes.long in
        record {
          long = go.kept.long ∙ ap length nodes ∙ two ∙ more ∙ sym sum ∙ sym (ap length all);
          same = λ j needed_there.
              go.kept.same j (behind j needed_there) ∙ ap (λ cs. slice_get cs j) nodes
              ∙ same_joined (clauses_of old.nodes.items) (nodes_of start taken.made) (clauses_made m) j
              taken.nodes.long (taken.nodes.same j (needed_before steps i j needed_there))
              ∙ sym (ap (λ cs. slice_get cs j) all);
        }

    pub taken_more : (lasts : List ℕ) → length lasts ≡ length steps → TellLastUses steps lasts →
        (between new : TakenSteps) → TakesStep above spec usable old between step (Ok tt) →
        LetsGo (IsNeededBehind lasts i) between new → AreTaken above spec usable start steps (i + 1) new
    taken_more lasts long last between new (m, taking, nodes, links, few) go =
        let place : i ≡ 0 + length (take i steps) = omega (arith, length-take-le i steps (omega (arith, lt))) in
        let here : StepMakes above spec usable (nodes_of start taken.made) i step m =
        record {
          clause = taking.clause;
          is = sym kept_here ∙ taking.is;
          says = says_made taking.clause (Ok m)
              taking.says;
        } in
        let there : StepMakes above spec usable (nodes_of start taken.made) (0 + length (take i steps)) step
        m = subst (λ k. StepMakes above spec usable (nodes_of start taken.made) k step m) place here in
        record {
          made = taken.made ++ m ∷ [];
          makes = subst (λ s. StepsMake above spec usable (start ∷ []) 0 s (taken.made ++ m ∷ []))
              (sym (taken_next steps i step lt is))
              (steps_longer above spec usable (start ∷ []) 0 (take i steps) taken.made taken.makes step m there);
          nodes = kept_more (IsNeededBehind lasts i) between new m nodes go (needed_behind steps lasts long last i lt);
          links = go.links ∙ links ∙ ap (λ ls. ls ++ links_of m ∷ []) taken.links
              ∙ sym (map-append links_of taken.made (m ∷ []));
          few = still_few (IsNeededBehind lasts i) between new few go;
        }

    pub taken_stops : (new : TakenSteps) (why : Why) →
        TakesStep above spec usable old new step (Err (because why)) → StepIsRefused above spec usable start steps i why
    taken_stops new why (inl h) = (step, taken.made, step_at, taken.makes, inl (sym kept_here ∙ h.0, h.1))
    taken_stops new why (inr h) = (
      step,
      taken.made,
      step_at,
      taken.makes,
      inr (h.0, sym kept_here ∙ h.1, says_made h.0 (Err why) h.2),
    )

    pub block_stops : (new : TakenSteps) (line : ℕ) (error : StepError) (stop : Stop) →
        TakesStep above spec usable old new step (Err error) → StopsAt line i error stop →
        FindsSteps above spec usable start steps line (Err stop)
    block_stops new line (because why) (Refused at reason) h s = (i, why, lt, s.0, s.1, taken_stops new why h)
    block_stops new line no_memory (Refused at reason) h s = absurd s
    block_stops new line error OutOfMemory h s = tt

  -- if no step is taken yet
  pub none_taken : (start : Clause) (steps : List Step) → IsNode spec.sig start → (new : TakenSteps) →
      clauses_of new.nodes.items ≡ start ∷ [] → new.links.items ≡ [] → AreTaken above spec usable start steps 0 new
  none_taken start steps is new nodes links = record {
    made = [];
    makes = tt;
    nodes = record { long = ap length nodes; same = λ k needed. ap (λ cs. slice_get cs k) nodes };
    links = links;
    few = few_first above spec usable new start is nodes links;
  }

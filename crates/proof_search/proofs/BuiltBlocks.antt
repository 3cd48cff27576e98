-- What the building of a block keeps from step to step, and what it says at its ends.
use Rattle.std.proofs.Common.{◌≡◌, ℕ, suc, ◌+◌, ◌<◌, ◌≤◌, List, [], ◌∷◌, ◌++◌, Some, None, Ok, map, ap}
use Rattle.std.proofs.Common.{sym, ◌∙◌, subst, arith, length, length-append}
use Rattle.std.specs.Prelude.{Option, slice_get, Contains}
use Rattle.std.proofs.lemmas.List.{length-map, map-append}
use Rattle.term_core.specs.Tree.{Tree}
use Rattle.spec_core.specs.declared.records.Spec.{Spec}
use Rattle.spec_core.specs.WellSorted.{IsWellSorted}
use Rattle.clause_core.specs.declared.answers.Children.{Children}
use Rattle.clause_core.specs.declared.clauses.Clause.{Clause}
use Rattle.clause_core.specs.declared.steps.Step.{Step}
use Rattle.clause_core.specs.Says.{Says}
use Rattle.clause_core.specs.Steps.{row_of}
use Rattle.descent.specs.SortedChildren.{IsNode, ChildrenAreSorted}
use Rattle.acceptance.specs.Blocks.{clauses_of as clauses_made, nodes_of, StepMakes, StepsMake}
use Rattle.acceptance.proofs.Longer.{steps_longer}
use Rattle.block_links.specs.Links.{links_of}
use Rattle.block_steps.proofs.Taking.{nodes_more, one_node}
use Rattle.inference_rules.specs.declared.nodes.Node.{Node as ClauseNode}
use Rattle.inference_rules.specs.Answers.{clauses_of}
use Rattle.inference_rules.specs.Nodes.{AreNodes}
use Rattle.routine_proof.specs.declared.moves.Move.{Move}
use Rattle.routine_proof.specs.Blocks.{Table}
use Rattle.routine_proof.specs.Candidates.{Candidate}
use Rattle.routine_proof.specs.Entries.{lemma_goals}
use Rattle.routine_proof.specs.Routine.{Start, candidates, makes}
use Rattle.routine_proof.specs.Ways.{Node}
use Rattle.proof_search.specs.declared.building.Building.{Building}
use Rattle.proof_search.specs.Building.{nodes_in, IsWhole, Begins, Takes, child_nodes}
use Rattle.proof_search.specs.declared.starting.Built.TheVariants.{Block, Not}
use Rattle.proof_search.specs.Starting.{IsNext, AreLonger, BeginsWith, IsBlock}
use Rattle.proof_search.proofs.Along.{OneChosen, BegunAt, Along, along_first, along_long, along_end, along_none}
use Rattle.proof_search.proofs.Along.{along_more}
use Rattle.proof_search.proofs.BuiltNodes.{there, length_one, nodes_length, begins_whole, begins_nodes}
use Rattle.proof_search.proofs.BuiltNodes.{takes_whole, takes_nodes}
use Rattle.proof_search.proofs.ChosenNodes.{next_clause, chosen_said, clauses_after, nodes_after}

module _ (above : Tree → Tree → Type 0) (spec : Spec) (lemmas : List ℕ) (start : Start) where
  abbrev table : Table
  table = makes above spec lemmas

  abbrev list : ℕ → List Node → Node → List Candidate
  list = candidates spec (lemma_goals spec lemmas) start

  module _ (goal : Clause) (most : ℕ) where
    abbrev IsAlong : List Step → List Node → Type 0
    IsAlong steps nodes = Along table list goal steps nodes

    abbrev Makes : List Step → List Children → Type 0
    Makes steps made = StepsMake above spec (Contains lemmas) (goal ∷ []) 0 steps made

    -- each routine block begins with the steps so far, and goes on from the nodes so far
    pub record IsPart (b : Building) : Type 0 where
      pub few : length b.steps.items ≤ most
      pub reached : length b.steps.items ≤ length b.block.nodes.items
      pub whole : IsWhole b
      pub nodes : AreNodes spec.sig (clauses_of b.block.nodes.items)
      pub along : Along table list goal b.steps.items (nodes_in b)
      pub made : List Children
      pub made_by : StepsMake above spec (Contains lemmas) (goal ∷ []) 0 b.steps.items made
      pub are : clauses_of b.block.nodes.items ≡ nodes_of goal made
      pub links : b.block.links.items ≡ map links_of made

    pub part_begins : (b : Building) → IsNode spec.sig goal → Begins goal b → IsPart b
    part_begins b node h =
        let none : length b.steps.items ≡ 0 = ap length h.steps in
        let are : clauses_of b.block.nodes.items ≡ goal ∷ [] = ap clauses_of h.nodes in
        record {
          few = omega (arith, none);
          reached = omega (arith, none);
          whole = begins_whole goal b h;
          nodes = subst (AreNodes spec.sig) (sym are) (one_node spec.sig goal node);
          along =
              subst (λ (p : List Step × List Node). IsAlong p.0 p.1)
              (λ i. (sym h.steps i, sym (begins_nodes goal b h) i))
              (along_first table list goal);
          made = [];
          made_by = subst (λ ss. Makes ss []) (sym h.steps) tt;
          are = are;
          links = h.links;
        }

    module _ (b : Building) (part : IsPart b) where
      long : length (nodes_in b) ≡ length b.block.nodes.items
      long = nodes_length b part.whole

      -- the first step that was taken
      begins :
          (steps : List Step) → BegunAt table list goal steps (nodes_in b) →
          BeginsWith above spec lemmas start goal (slice_get steps 0)
      begins [] begun = tt
      begins (s ∷ steps) begun = begun

      no_block :
          (first : Option Step) → first ≡ slice_get b.steps.items 0 →
          AreLonger above spec lemmas start goal most →
          IsBlock above spec lemmas start goal most (Not first)
      no_block first is longer =
          let told = begins b.steps.items part.along.begun in
          (longer, subst (BeginsWith above spec lemmas start goal) (sym is) told)

      pub part_long :
          most < length b.block.nodes.items →
          (first : Option Step) → first ≡ slice_get b.steps.items 0 →
          IsBlock above spec lemmas start goal most (Not first)
      part_long more first is =
          no_block first is
          (along_long table list goal b.steps.items (nodes_in b) part.along most
          (omega (arith, more, long)))

      pub part_ends :
          length b.block.nodes.items ≤ length b.steps.items →
          IsBlock above spec lemmas start goal most (Block b)
      part_ends le =
          let same : length (nodes_in b) ≡ length b.steps.items =
          omega (arith, long, le, part.reached) in
          record {
            routine = along_end table list goal b.steps.items (nodes_in b) part.along same;
            few = part.few;
            made = part.made;
            made_by = part.made_by;
            finished =
                sym (ap length part.are)
                ∙ length-map b.block.nodes.items (λ (n : ClauseNode). n.clause) ∙ sym long ∙ same;
            links = part.links;
          }

      module _ (lt : length b.steps.items < length b.block.nodes.items) where
        here : (node : Node) × (slice_get (nodes_in b) (length b.steps.items) ≡ Some node)
        here = there (nodes_in b) (length b.steps.items) (omega (arith, lt, long))

        pub part_stops :
            IsNext above spec lemmas start b None →
            (first : Option Step) → first ≡ slice_get b.steps.items 0 →
            IsBlock above spec lemmas start goal most (Not first)
        part_stops next first is =
            no_block first is
            (λ all r.
            absurd
            (along_none table list goal b.steps.items (nodes_in b) part.along here.0 here.1
            (next here.0 here.1) all r))

        -- the next node takes its step
        module _
            (laws : ChildrenAreSorted above) (fine : IsWellSorted spec)
            (one : OneChosen table list) (le : length b.block.nodes.items ≤ most) (new : Building)
            (move : Move) (next : IsNext above spec lemmas start b (Some move))
            (taken : Takes b new move)
          where
            -- what the table says of the step over these nodes
            abbrev SaysOver : List Clause → Type 0
            SaysOver cs =
                Says above here.0.clause cs
                (row_of spec (Contains lemmas) cs here.0.clause move.step) (Ok move.made)

            abbrev IsThere : List Clause → Type 0
            IsThere cs = slice_get cs (length b.steps.items) ≡ Some here.0.clause

            said : SaysOver (clauses_of b.block.nodes.items)
            said = chosen_said above spec lemmas start b part.whole here.0 here.1 move next

            clause_there : IsThere (clauses_of b.block.nodes.items)
            clause_there = next_clause above spec lemmas start b part.whole here.0 here.1

            are_new :
                clauses_of new.block.nodes.items ≡ clauses_of b.block.nodes.items ++ clauses_made move.made
            are_new = clauses_after above spec lemmas start b part.whole here.0 here.1 move next new taken

            stand : AreNodes spec.sig (clauses_of new.block.nodes.items)
            stand =
                nodes_after above spec lemmas start b part.whole here.0 here.1 move next new taken laws
                fine part.nodes

            abbrev MakesAt : ℕ → Type 0
            MakesAt k =
                StepMakes above spec (Contains lemmas) (nodes_of goal part.made) k move.step
                move.made

            step_makes : MakesAt (length b.steps.items)
            step_makes = record {
              clause = here.0.clause;
              is = subst IsThere part.are clause_there;
              says = subst SaysOver part.are said;
            }

            pub part_takes : IsPart new
            part_takes =
                let steps : length new.steps.items ≡ suc (length b.steps.items) =
                ap length taken.steps ∙ length_one b.steps.items move.step in
                let more = child_nodes move.made.clauses in
                let nodes : length new.block.nodes.items ≡ length b.block.nodes.items + length more =
                ap length taken.nodes ∙ length-append b.block.nodes.items more in
                let k : length b.steps.items ≡ 0 + length b.steps.items = omega arith in
                let all = part.made ++ move.made ∷ [] in
                record {
                  few = omega (arith, steps, lt, le);
                  reached = omega (arith, steps, nodes, lt);
                  whole = takes_whole b new move taken part.whole lt;
                  nodes = stand;
                  along =
                      let grown = takes_nodes b new move taken part.whole here.0 here.1 in
                      subst (λ (p : List Step × List Node). IsAlong p.0 p.1)
                      (λ i. (sym taken.steps i, sym grown i))
                      (along_more table list goal b.steps.items (nodes_in b) part.along one here.0
                      move here.1 (next here.0 here.1));
                  made = all;
                  made_by =
                      subst (λ ss. Makes ss all) (sym taken.steps)
                      (steps_longer above spec (Contains lemmas) (goal ∷ []) 0 b.steps.items
                      part.made part.made_by move.step move.made (subst MakesAt k step_makes));
                  are =
                      are_new ∙ ap (λ cs. cs ++ clauses_made move.made) part.are
                      ∙ sym (nodes_more goal part.made move.made);
                  links =
                      taken.links ∙ ap (λ ls. ls ++ links_of move.made ∷ []) part.links
                      ∙ sym (map-append links_of part.made (move.made ∷ []));
                }

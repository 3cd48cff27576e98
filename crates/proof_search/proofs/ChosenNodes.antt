-- What the chosen move of the next node adds can be nodes.
use Rattle.std.proofs.Common.{◌≡◌, ℕ, zero, suc, List, [], ◌∷◌, ◌++◌, Some, Ok, map, refl, ap, sym, ◌∙◌, subst, length}
use Rattle.std.specs.Prelude.{slice_get, Contains}
use Rattle.std.proofs.lemmas.Option.{none-some, same_Some}
use Rattle.term_core.specs.Tree.{Tree}
use Rattle.spec_core.specs.declared.records.Spec.{Spec}
use Rattle.spec_core.specs.Sig.{Sig}
use Rattle.spec_core.specs.WellSorted.{IsWellSorted}
use Rattle.clause_core.specs.declared.answers.Child.{Child}
use Rattle.clause_core.specs.declared.clauses.Clause.{Clause}
use Rattle.clause_core.specs.Says.{Says}
use Rattle.clause_core.specs.Steps.{row_of}
use Rattle.descent.specs.SortedChildren.{IsNode, ChildrenAreSorted}
use Rattle.acceptance.specs.Blocks.{clauses_of as clauses_made}
use Rattle.block_steps.proofs.Taking.{nodes_joined}
use Rattle.inference_rules.specs.Answers.{clauses_of}
use Rattle.inference_rules.specs.Nodes.{AreNodes}
use Rattle.routine_proof.specs.declared.moves.Move.{Move}
use Rattle.routine_proof.specs.Blocks.{clauses}
use Rattle.routine_proof.specs.Entries.{lemma_goals}
use Rattle.routine_proof.specs.Routine.{Start, candidates, makes}
use Rattle.routine_proof.specs.Ways.{Node}
use Rattle.routine_proof.proofs.Blocks.{chosen_says}
use Rattle.routine_proof.proofs.Built.{clauses_at}
use Rattle.proof_search.specs.declared.building.Building.{Building}
use Rattle.proof_search.specs.Building.{nodes_in, IsWhole, Takes}
use Rattle.proof_search.specs.Starting.{IsNext}
use Rattle.proof_search.proofs.AddedNodes.{child_clauses}
use Rattle.proof_search.proofs.BuiltNodes.{nodes_clauses}

-- the clauses of children that can be nodes
nodes_made :
    (sig : Sig) (ds : List Child) →
    ((i : ℕ) (d : Child) → slice_get ds i ≡ Some d → IsNode sig d.clause) →
    AreNodes sig (map (λ (d : Child). d.clause) ds)
nodes_made sig [] h j c at = absurd (none-some c at)
nodes_made sig (d ∷ ds) h zero c at = subst (IsNode sig) (same_Some d.clause c at) (h 0 d refl)
nodes_made sig (d ∷ ds) h (suc j) c at = nodes_made sig ds (λ i e p. h (suc i) e p) j c at

module _
    (above : Tree → Tree → Type 0) (spec : Spec) (lemmas : List ℕ) (start : Start) (b : Building)
    (whole : IsWhole b) (here : Node)
    (at : slice_get (nodes_in b) (length b.steps.items) ≡ Some here)
  where
    pub next_clause : slice_get (clauses_of b.block.nodes.items) (length b.steps.items) ≡ Some here.clause
    next_clause =
        subst
        (λ (cs : List Clause). slice_get cs (length b.steps.items) ≡ Some here.clause)
        (nodes_clauses b whole) (clauses_at (nodes_in b) (length b.steps.items) here at)

    module _ (move : Move) (next : IsNext above spec lemmas start b (Some move)) where
      -- what the table says of the step over these nodes
      abbrev SaysOver : List Clause → Type 0
      SaysOver cs =
          Says above here.clause cs
          (row_of spec (Contains lemmas) cs here.clause move.step) (Ok move.made)

      pub chosen_said : SaysOver (clauses_of b.block.nodes.items)
      chosen_said =
          subst SaysOver (nodes_clauses b whole)
          (chosen_says (makes above spec lemmas (clauses (nodes_in b)) here.clause)
          (candidates spec (lemma_goals spec lemmas) start (length b.steps.items) (nodes_in b) here) move
          (next here at))

      module _ (new : Building) (taken : Takes b new move) where
        pub clauses_after :
            clauses_of new.block.nodes.items ≡ clauses_of b.block.nodes.items ++ clauses_made move.made
        clauses_after = ap clauses_of taken.nodes ∙ child_clauses b.block.nodes.items move.made.clauses

        pub nodes_after :
            ChildrenAreSorted above → IsWellSorted spec →
            AreNodes spec.sig (clauses_of b.block.nodes.items) →
            AreNodes spec.sig (clauses_of new.block.nodes.items)
        nodes_after laws fine nodes =
            let made =
            laws move.step spec lemmas (clauses_of b.block.nodes.items) here.clause move.made fine
            (λ j d p. (nodes j d p).sorted)
            (nodes (length b.steps.items) here.clause next_clause).sorted chosen_said in
            subst (AreNodes spec.sig) (sym clauses_after)
            (nodes_joined spec.sig (clauses_of b.block.nodes.items) (clauses_made move.made) nodes
            (nodes_made spec.sig move.made.clauses made))

-- What is said of the clauses of nodes, said of a block that is built: the move of a split.
use Rattle.std.proofs.Common.{◌≡◌, ℕ, List, Some, Result, Ok, Err, ap, sym, ◌∙◌, subst, length}
use Rattle.std.specs.Prelude.{slice_get, Option, IfOk}
use Rattle.term_core.specs.Tree.{Tree}
use Rattle.term_core.specs.declared.memory.OutOfMemory.{OutOfMemory}
use Rattle.spec_core.specs.declared.records.Spec.{Spec}
use Rattle.inference_rules.specs.declared.nodes.Node.{Node as ClauseNode}
use Rattle.inference_rules.specs.Answers.{clauses_of}
use Rattle.routine_proof.specs.declared.moves.Move.{Move}
use Rattle.routine_proof.specs.Blocks.{clauses}
use Rattle.routine_proof.specs.Candidates.{Candidate, Gives}
use Rattle.routine_proof.specs.Entries.{cover, lemma_goals}
use Rattle.routine_proof.specs.First.{IsFirst}
use Rattle.routine_proof.specs.Routine.{Start, split, candidates, makes}
use Rattle.routine_proof.specs.Ways.{Node}
use Rattle.proof_search.specs.declared.building.Building.{Building}
use Rattle.proof_search.specs.Building.{nodes_in, IsWhole}
use Rattle.proof_search.specs.Starting.{IsNext}
use Rattle.proof_search.proofs.BuiltNodes.{nodes_clauses}

module _ (above : Tree → Tree → Type 0) (spec : Spec) (lemmas : List ℕ) where
  -- the move that these candidates give at a node, over nodes of these clauses
  abbrev pub Gets : List Node → Node → List Candidate → Option Move → Type 0
  Gets made here list found =
      IsFirst (Gives (makes above spec lemmas (clauses made) here.clause)) list found

  abbrev pub CoveredAt : List ClauseNode → ℕ → ℕ → Option Move → Type 0
  CoveredAt nodes k v found =
      (made : List Node) (here : Node) → clauses made ≡ clauses_of nodes →
      slice_get made k ≡ Some here → Gets made here (cover spec here.clause v) found

  module _
      (b : Building) (whole : IsWhole b) (nodes : List ClauseNode) (same : nodes ≡ b.block.nodes.items)
    where
      clauses_same : clauses (nodes_in b) ≡ clauses_of nodes
      clauses_same = nodes_clauses b whole ∙ ap clauses_of (sym same)

      module _ (k : ℕ) (next : k ≡ length b.steps.items) where
        at_next : (here : Node) → slice_get (nodes_in b) (length b.steps.items) ≡ Some here →
            slice_get (nodes_in b) k ≡ Some here
        at_next here at = subst (λ j. slice_get (nodes_in b) j ≡ Some here) (sym next) at

        -- the move is got from the candidates of the next node
        abbrev Nexts : Start → Node → ℕ → Option Move → Type 0
        Nexts start here j found =
            Gets (nodes_in b) here
            (candidates spec (lemma_goals spec lemmas) start j (nodes_in b) here) found

        pub covered_result :
            (v : ℕ) → k ≡ 0 → (r : Result (Option Move) OutOfMemory) →
            IfOk r (CoveredAt nodes k v) → IfOk r (IsNext above spec lemmas (split v) b)
        covered_result v first (Ok found) covered = λ here at.
            let e : 0 ≡ length b.steps.items = sym first ∙ next in
            subst (λ j. Nexts (split v) here j found) e
            (covered (nodes_in b) here clauses_same (at_next here at))
        covered_result v first (Err e) covered = tt

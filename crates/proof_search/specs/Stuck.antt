-- The nodes at which the routine strategy stops on the way to a proof.
use Rattle.std.specs.Prelude.{◌≡◌, ℕ, suc, ◌<◌, true, List, [], ◌∷◌, ◌++◌, Option, Some, None, length, slice_get}
use Rattle.std.specs.Prelude.{remove}
use Rattle.std.specs.List.{AllByRecursion}
use Rattle.term_core.specs.Tree.{Tree}
use Rattle.term_core.specs.declared.ids.VarId.{VarId}
use Rattle.spec_core.specs.declared.records.Goal.{Goal}
use Rattle.spec_core.specs.declared.records.Spec.{Spec}
use Rattle.clause_core.specs.declared.clauses.Clause.{Clause}
use Rattle.clause_core.specs.Tidied.{goal_clause}
use Rattle.descent.specs.SortedChildren.{IsNode}
use Rattle.routine_proof.specs.declared.moves.Move.{Move}
use Rattle.routine_proof.specs.Blocks.{clauses, IsChosen, root}
use Rattle.routine_proof.specs.Candidates.{Gives}
use Rattle.routine_proof.specs.Entries.{entries, lemma_goals}
use Rattle.routine_proof.specs.First.{FirstIs, NoneIs}
use Rattle.routine_proof.specs.Routine.{Start, no_split, split, candidates, makes}
use Rattle.routine_proof.specs.Ways.{Node, born, is_cover}
use Rattle.proof_search.specs.declared.stuck.Cause.{Cause}
use Rattle.proof_search.specs.declared.stuck.Cause.TheVariants.{NoStep, Covers}
use Rattle.proof_search.specs.declared.stopping.StuckStart.{StuckStart}
use Rattle.proof_search.specs.declared.stuck.Stuck.{Stuck}
use Rattle.proof_search.specs.Bounding.{IsStart}

-- the start that splits this variable first, or none
abbrev pub start_at : Option VarId → Start
start_at None = no_split
start_at (Some v) = split v.0

module _ (above : Tree → Tree → Type 0) (spec : Spec) (lemmas : List ℕ) where
  -- no step of the list is defined at this node over these nodes, or the first one that is is a cover
  abbrev pub IsCause : List Node → Node → Cause → Type 0
  IsCause nodes here NoStep =
      NoneIs
      (Gives (makes above spec lemmas (clauses nodes) here.clause))
      (entries spec (lemma_goals spec lemmas) nodes here)
  IsCause nodes here Covers =
      (move : Move) × (is_cover move.step ≡ true)
      × FirstIs
      (Gives (makes above spec lemmas (clauses nodes) here.clause))
      (entries spec (lemma_goals spec lemmas) nodes here) move

  module _ (start : Start) (goal : Clause) where
    -- These nodes are made from the start, of which the one with this number is the next: there is
    -- that of the clause alone, or the next one made its chosen move, or it was passed over and is
    -- left out.
    pub data Reaches : List Node → ℕ → Type 0 where
      begins : Reaches (root goal ∷ []) 0
      takes : {nodes : List Node} {k : ℕ} (here : Node) (move : Move) → Reaches nodes k
          → slice_get nodes k ≡ Some here
          → IsChosen (makes above spec lemmas) (candidates spec (lemma_goals spec lemmas) start)
          nodes k here move
          → Reaches (nodes ++ born k here move.step move.made) (suc k)
      passes : {nodes : List Node} {k : ℕ} → Reaches nodes k → 0 < k → k < length nodes
          → Reaches (remove nodes k) k

    -- the clause is that of such a node, other than the first, and the routine strategy stops there
    -- for this cause
    pub record IsStuckFrom (stuck : Stuck) : Type 0 where
      pub nodes : List Node
      pub number : ℕ
      pub here : Node
      pub reached : Reaches nodes number
      pub later : 0 < number
      pub at : slice_get nodes number ≡ Some here
      pub clause : stuck.clause ≡ here.clause
      pub node : IsNode spec.sig stuck.clause
      pub cause : IsCause nodes here stuck.cause

  -- that from one of the goal's starts
  abbrev pub IsStuck : Goal → Stuck → Type 0
  IsStuck goal stuck =
      (start : Start) × IsStart (goal_clause goal) start
      × IsStuckFrom start (goal_clause goal) stuck

  abbrev pub AreStuck : Goal → List Stuck → Type 0
  AreStuck goal stuck = AllByRecursion (IsStuck goal) stuck

  -- the nodes of a start are such nodes from it
  abbrev pub IsStuckStart : Goal → StuckStart → Type 0
  IsStuckStart goal s =
      IsStart (goal_clause goal) (start_at s.split)
      × AllByRecursion (IsStuckFrom (start_at s.split) (goal_clause goal)) s.stuck.items

  abbrev pub AreStuckStarts : Goal → List StuckStart → Type 0
  AreStuckStarts goal starts = AllByRecursion (IsStuckStart goal) starts

  -- each clause is that of such a node
  abbrev pub AreStuckClauses : Goal → List Clause → Type 0
  AreStuckClauses goal clauses =
      AllByRecursion (λ (c : Clause). (stuck : Stuck) × (stuck.clause ≡ c) × IsStuck goal stuck)
      clauses

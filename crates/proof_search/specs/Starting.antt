-- Blocks that are built from a start.
use Rattle.std.specs.Prelude.{◌≡◌, ℕ, ◌≤◌, ◌<◌, List, [], ◌∷◌, Option, Some, None, Contains, map, length, slice_get}
use Rattle.term_core.specs.Tree.{Tree}
use Rattle.spec_core.specs.declared.records.Spec.{Spec}
use Rattle.clause_core.specs.declared.answers.Children.{Children}
use Rattle.clause_core.specs.declared.clauses.Clause.{Clause}
use Rattle.clause_core.specs.declared.steps.Step.{Step}
use Rattle.acceptance.specs.Blocks.{nodes_of, StepsMake}
use Rattle.block_links.specs.Links.{links_of}
use Rattle.routine_proof.specs.declared.moves.Move.{Move}
use Rattle.routine_proof.specs.Blocks.{clauses, IsChosen, root}
use Rattle.routine_proof.specs.Candidates.{Gives}
use Rattle.routine_proof.specs.Entries.{entries, lemma_goals}
use Rattle.routine_proof.specs.First.{IsFirst}
use Rattle.routine_proof.specs.Routine.{Start, no_split, split, candidates, makes, IsRoutine}
use Rattle.routine_proof.specs.Ways.{Node}
use Rattle.proof_search.specs.declared.building.Building.{Building}
use Rattle.proof_search.specs.declared.starting.Built.{Built}
use Rattle.proof_search.specs.declared.starting.Built.TheVariants.{Block, Not}
use Rattle.proof_search.specs.declared.starting.Start.{Start as TriedStart}
use Rattle.proof_search.specs.declared.starting.Start.TheVariants.{NoSplit, Split}
use Rattle.proof_search.specs.Building.{nodes_in}

-- what the start is in the definitions
abbrev pub start_of : TriedStart → Start
start_of NoSplit = no_split
start_of (Split v) = split v.0

-- the move that the list of entries gives at this node, or that it gives none
abbrev pub IsListed :
    (Tree → Tree → Type 0) → Spec → List ℕ → Building → ℕ → Option Move → Type 0
IsListed above spec lemmas b k found =
    (here : Node) → slice_get (nodes_in b) k ≡ Some here →
    IsFirst
    (Gives (makes above spec lemmas (clauses (nodes_in b)) here.clause))
    (entries spec (lemma_goals spec lemmas) (nodes_in b) here)
    found

module _ (above : Tree → Tree → Type 0) (spec : Spec) (lemmas : List ℕ) (start : Start) where
  -- the move that is chosen at the next node, or that none is
  abbrev pub IsNext : Building → Option Move → Type 0
  IsNext b found =
      (here : Node) → slice_get (nodes_in b) (length b.steps.items) ≡ Some here →
      IsFirst
      (Gives (makes above spec lemmas (clauses (nodes_in b)) here.clause))
      (candidates spec (lemma_goals spec lemmas) start (length b.steps.items) (nodes_in b) here)
      found

  -- the step is chosen at the node of the clause, if a step is given
  abbrev pub BeginsWith : Clause → Option Step → Type 0
  BeginsWith goal (Some step) =
      (move : Move) × (move.step ≡ step)
      × IsChosen (makes above spec lemmas) (candidates spec (lemma_goals spec lemmas) start)
      (root goal ∷ []) 0 (root goal) move
  BeginsWith goal None = Unit {0}

  module _ (goal : Clause) (most : ℕ) where
    -- the steps are the routine block, with at most this many nodes, and the links are those of
    -- what they make
    pub record IsDone (b : Building) : Type 0 where
      pub routine : IsRoutine above spec lemmas goal start b.steps.items
      pub few : length b.steps.items ≤ most
      pub made : List Children
      pub made_by : StepsMake above spec (Contains lemmas) (goal ∷ []) 0 b.steps.items made
      pub finished : length (nodes_of goal made) ≡ length b.steps.items
      pub links : b.block.links.items ≡ map links_of made

    -- each routine block has more nodes than that
    abbrev pub AreLonger : Type 0
    AreLonger = (steps : List Step) → IsRoutine above spec lemmas goal start steps →
        most < length steps

    -- the routine block of the clause, or that it has more nodes or isn't there
    abbrev pub IsBlock : Built → Type 0
    IsBlock (Block b) = IsDone b
    IsBlock (Not first) = AreLonger × BeginsWith goal first

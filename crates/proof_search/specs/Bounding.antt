-- Routine proofs whose blocks keep limits: what is found is one, and nothing is said of what isn't.
use Rattle.std.specs.Prelude.{ℕ, ◌≤◌, ◌<◌, List, Option, Some, None, length}
use Rattle.term_core.specs.Tree.{Tree}
use Rattle.spec_core.specs.declared.records.Goal.{Goal}
use Rattle.spec_core.specs.declared.records.Spec.{Spec}
use Rattle.clause_core.specs.declared.clauses.Clause.{Clause}
use Rattle.clause_core.specs.Tidied.{goal_clause}
use Rattle.routine_proof.specs.declared.moves.Move.{Move}
use Rattle.routine_proof.specs.Routine.{Start, no_split, split, IsProof}
use Rattle.proof_search.specs.declared.answers.Guided.{Guided}
use Rattle.proof_search.specs.declared.answers.Guided.TheVariants.{Block as Found, Unfinished}
use Rattle.proof_search.specs.declared.building.Building.{Building}
use Rattle.proof_search.specs.declared.proving.Tried.{Tried}
use Rattle.proof_search.specs.declared.proving.Tried.TheVariants.{Proof, Not as NoProof}
use Rattle.proof_search.specs.declared.starting.Built.{Built}
use Rattle.proof_search.specs.declared.starting.Built.TheVariants.{Block, Not}
use Rattle.proof_search.specs.Starting.{IsNext, IsDone}

-- the clause has such a start: the split is that of one of its variables
abbrev pub IsStart : Clause → Start → Type 0
IsStart c no_split = Unit {0}
IsStart c (split v) = v < length c.ctx

module _ (above : Tree → Tree → Type 0) (spec : Spec) (lemmas : List ℕ) where
  -- a block that is found is a routine proof of the goal from one of its starts, with at most this
  -- many nodes
  abbrev pub IsRoutineWithin : Goal → ℕ → Guided → Type 0
  IsRoutineWithin goal most (Found block) =
      (start : Start) × IsStart (goal_clause goal) start
      × IsProof above spec lemmas goal most start block.steps
  IsRoutineWithin goal most Unfinished = Unit {0}

  module _ (start : Start) where
    -- a move that is given is the one that is chosen at the next node, of at most this many
    abbrev pub IsNextWithin : ℕ → Building → Option Move → Type 0
    IsNextWithin most b (Some move) =
        (length b.block.nodes.items ≤ most) × IsNext above spec lemmas start b (Some move)
    IsNextWithin most b None = Unit {0}

    -- a block that is given is the routine block
    abbrev pub IsBlockWithin : Clause → ℕ → Built → Type 0
    IsBlockWithin goal most (Block b) = IsDone above spec lemmas start goal most b
    IsBlockWithin goal most (Not first) = Unit {0}

  -- a proof that is given is one from this start
  abbrev pub IsTriedWithin : Goal → ℕ → Start → Tried → Type 0
  IsTriedWithin goal most start (Proof block) = IsProof above spec lemmas goal most start block.steps
  IsTriedWithin goal most start (NoProof first) = Unit {0}

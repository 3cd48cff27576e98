-- Routine proofs of a goal: its starts, and the first start that gives one.
use Rattle.std.specs.Prelude.{ℕ, zero, suc, ◌≤◌, List, [], ◌∷◌, Option, Ok, Contains, map, length}
use Rattle.std.specs.List.{range_with_len}
use Rattle.term_core.specs.Tree.{Tree}
use Rattle.spec_core.specs.declared.records.Goal.{Goal}
use Rattle.spec_core.specs.declared.records.Spec.{Spec}
use Rattle.clause_core.specs.declared.clauses.Clause.{Clause}
use Rattle.clause_core.specs.declared.reports.Outcome.TheVariants.{Proved}
use Rattle.clause_core.specs.declared.steps.Step.{Step}
use Rattle.clause_core.specs.Says.{Says}
use Rattle.clause_core.specs.Steps.{row_of}
use Rattle.clause_core.specs.Tidied.{goal_clause}
use Rattle.acceptance.specs.Blocks.{Proves}
use Rattle.proof_script.specs.Claims.{claim_text}
use Rattle.routine_proof.specs.Blocks.{Table, Runs, root}
use Rattle.routine_proof.specs.Candidates.{Candidate}
use Rattle.routine_proof.specs.Entries.{lemma_goals, entries, cover}
use Rattle.routine_proof.specs.First.{IsFirst}
use Rattle.routine_proof.specs.Ways.{Node}

-- how a block begins
pub data Start : Type 0 where
  no_split : Start
  split : ℕ → Start

-- first no split, and then the variables of the clause in their order
abbrev pub starts : Clause → List Start
starts c = no_split ∷ map split (range_with_len 0 (length c.ctx))

-- a split is the cover of its variable at node 0; every other step is chosen from the list
abbrev pub candidates : Spec → List Goal → Start → ℕ → List Node → Node → List Candidate
candidates spec lemmas (split v) zero nodes node = cover spec node.clause v
candidates spec lemmas (split v) (suc k) nodes node = entries spec lemmas nodes node
candidates spec lemmas no_split k nodes node = entries spec lemmas nodes node

-- the claim that the steps prove the goal, as it appears in a report
abbrev pub claim_bytes : Spec → Goal → List Step → List ℕ
claim_bytes spec goal steps =
    claim_text spec.sig
    (record { goal = goal.name; outcome = Proved (record { steps = steps }) })

-- by an order on terms, with the goals of these numbers as lemmas
module _ (above : Tree → Tree → Type 0) (spec : Spec) (lemmas : List ℕ) where
  -- what the table of steps says that a step makes
  abbrev pub makes : Table
  makes nodes c step made =
      Says above c nodes (row_of spec (Contains lemmas) nodes c step) (Ok made)

  -- the steps are the routine block of the start
  abbrev pub IsRoutine : Clause → Start → List Step → Type 0
  IsRoutine goal start steps =
      Runs makes (candidates spec (lemma_goals spec lemmas) start) (root goal ∷ []) 0 steps

  module _ (goal : Goal) (most : ℕ) where
    -- the steps are the routine block of the start, they prove the goal, with at most this many
    -- nodes, and the claim has at most 300,000 bytes
    pub record IsProof (start : Start) (steps : List Step) : Type 0 where
      pub routine : IsRoutine (goal_clause goal) start steps
      pub few : length steps ≤ most
      pub short : length (claim_bytes spec goal steps) ≤ 300000
      pub proves : Proves above spec (Contains lemmas) (goal_clause goal) steps

    -- the steps are those of the first start that gives a proof, or no start gives one
    abbrev pub IsFirstProof : Option (List Step) → Type 0
    IsFirstProof found = IsFirst IsProof (starts (goal_clause goal)) found

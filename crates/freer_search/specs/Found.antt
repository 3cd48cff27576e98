-- What a freer search answers: a proof, or nothing that says anything.
use Rattle.std.specs.Prelude.{◌≡◌, ℕ, ◌≤◌, List, Contains, length}
use Rattle.term_core.specs.Tree.{Tree}
use Rattle.spec_core.specs.declared.records.Goal.{Goal}
use Rattle.spec_core.specs.declared.records.Spec.{Spec}
use Rattle.clause_core.specs.declared.steps.Step.{Step}
use Rattle.clause_core.specs.Tidied.{goal_clause}
use Rattle.acceptance.specs.Blocks.{Proves}
use Rattle.routine_proof.specs.Routine.{claim_bytes}
use Rattle.proof_search.specs.declared.answers.Guided.{Guided}
use Rattle.proof_search.specs.declared.answers.Guided.TheVariants.{Block, Unfinished}

-- the block that is answered has these steps, and its claim has at most 300,000 bytes
abbrev pub IsShort : Spec → Goal → List Step → Guided → Type 0
IsShort spec goal steps (Block block) =
    (block.steps ≡ steps) × (length (claim_bytes spec goal steps) ≤ 300000)
IsShort spec goal steps Unfinished = Unit {0}

-- the steps prove the goal over the goals of these numbers as lemmas, there are at most this many,
-- and their claim has at most 300,000 bytes
pub record IsProofWithin
    (above : Tree → Tree → Type 0) (spec : Spec) (lemmas : List ℕ) (goal : Goal) (most : ℕ)
    (steps : List Step) : Type 0 where
  pub few : length steps ≤ most
  pub short : length (claim_bytes spec goal steps) ≤ 300000
  pub proves : Proves above spec (Contains lemmas) (goal_clause goal) steps

-- the steps of a block that is answered are such a proof
abbrev pub IsFound :
    (Tree → Tree → Type 0) → Spec → List ℕ → Goal → ℕ → Guided → Type 0
IsFound above spec lemmas goal most (Block block) =
    IsProofWithin above spec lemmas goal most block.steps
IsFound above spec lemmas goal most Unfinished = Unit {0}

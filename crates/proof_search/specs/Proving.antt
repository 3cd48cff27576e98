-- Whether the block of a start is a proof.
use Rattle.std.specs.Prelude.{◌≡◌, ℕ, ◌≤◌, ◌<◌, List, Option, Some, length, slice_get}
use Rattle.term_core.specs.Tree.{Tree}
use Rattle.term_core.specs.declared.ids.SortId.{SortId}
use Rattle.term_core.specs.declared.ids.VarId.{VarId}
use Rattle.spec_core.specs.declared.records.Goal.{Goal}
use Rattle.spec_core.specs.declared.records.Spec.{Spec}
use Rattle.clause_core.specs.declared.clauses.Clause.{Clause}
use Rattle.clause_core.specs.declared.steps.Block.{Block as BlockOf}
use Rattle.clause_core.specs.declared.steps.Step.{Step}
use Rattle.clause_core.specs.declared.steps.Step.TheVariants.{Cover}
use Rattle.clause_core.specs.Tidied.{goal_clause}
use Rattle.test_sets.specs.TestSets.{test_set_of}
use Rattle.routine_proof.specs.First.{HasNone}
use Rattle.routine_proof.specs.Routine.{Start, IsProof, claim_bytes}
use Rattle.proof_search.specs.declared.proving.Tried.{Tried}
use Rattle.proof_search.specs.declared.proving.Tried.TheVariants.{Proof, Not}
use Rattle.proof_search.specs.Starting.{BeginsWith}

-- the block, if its claim has at most 300,000 bytes, or its first step
abbrev pub IsShortBlock : Spec → Goal → BlockOf → Tried → Type 0
IsShortBlock spec goal block (Proof found) =
    (found ≡ block) × (length (claim_bytes spec goal block.steps) ≤ 300000)
IsShortBlock spec goal block (Not first) =
    (300000 < length (claim_bytes spec goal block.steps)) × (first ≡ slice_get block.steps 0)

-- the proof from this start, or that it has none, and what it begins with
abbrev pub IsTried :
    (Tree → Tree → Type 0) → Spec → List ℕ → Goal → ℕ → Start → Tried → Type 0
IsTried above spec lemmas goal most start (Proof block) =
    IsProof above spec lemmas goal most start block.steps
IsTried above spec lemmas goal most start (Not first) =
    HasNone (IsProof above spec lemmas goal most) start
    × BeginsWith above spec lemmas start (goal_clause goal) first

-- the step that is given is the cover of the variable by the test set of its sort
abbrev pub IsCoverOf : Spec → Clause → Option Step → VarId → Type 0
IsCoverOf spec c first v =
    (s : SortId) × (slice_get c.ctx v.0 ≡ Some s)
    × (first ≡ Some (Cover v (test_set_of spec.sig s)))

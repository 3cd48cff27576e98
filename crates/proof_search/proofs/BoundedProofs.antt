-- Routine proofs whose blocks keep limits, from start to start.
use Rattle.std.proofs.Common.{◌≡◌, ℕ, List, subst}
use Rattle.std.specs.Prelude.{Result, Ok, Err, IfOk}
use Rattle.term_core.specs.Tree.{Tree}
use Rattle.term_core.specs.declared.memory.OutOfMemory.{OutOfMemory}
use Rattle.spec_core.specs.declared.records.Goal.{Goal}
use Rattle.spec_core.specs.declared.records.Spec.{Spec}
use Rattle.clause_core.specs.declared.steps.Block.{Block}
use Rattle.clause_core.specs.Tidied.{goal_clause}
use Rattle.routine_proof.specs.Routine.{Start}
use Rattle.proof_search.specs.declared.answers.Guided.TheVariants.{Block as Found}
use Rattle.proof_search.specs.declared.proving.Tried.{Tried}
use Rattle.proof_search.specs.declared.proving.Tried.TheVariants.{Proof, Not}
use Rattle.proof_search.specs.Bounding.{IsStart, IsRoutineWithin, IsTriedWithin}
use Rattle.proof_search.specs.Proving.{IsTried}

module _
    (above : Tree → Tree → Type 0) (spec : Spec) (lemmas : List ℕ) (goal : Goal) (most : ℕ)
    (start : Start)
  where
    tried_within :
        (found : Tried) → IsTried above spec lemmas goal most start found →
        IsTriedWithin above spec lemmas goal most start found
    tried_within (Proof block) proof = proof
    tried_within (Not first) none = tt

    -- what is said of all starts, said of those that keep limits
    pub within_result :
        (r : Result Tried OutOfMemory) → IfOk r (IsTried above spec lemmas goal most start) →
        IfOk r (IsTriedWithin above spec lemmas goal most start)
    within_result (Ok found) tried = tried_within found tried
    within_result (Err error) tried = tt

    -- a proof from a start of a setting is one of the goal
    pub found_within :
        (its : Spec) (numbers : List ℕ) → its ≡ spec → numbers ≡ lemmas →
        IsStart (goal_clause goal) start → (found : Tried) (block : Block) → found ≡ Proof block →
        IsTriedWithin above its numbers goal most start found →
        IsRoutineWithin above spec lemmas goal most (Found block)
    found_within its numbers e f is found block g tried = (
      start,
      is,
      subst (λ (p : Spec × List ℕ × Tried). IsTriedWithin above p.0 p.1 goal most start p.2)
          (λ i. (e i, f i, g i)) tried,
    )

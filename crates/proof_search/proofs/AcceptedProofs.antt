-- A routine proof of a goal is accepted after claims that prove the lemmas.
use Rattle.std.proofs.Common.{◌≡◌, ℕ, List, Some, refl}
use Rattle.std.specs.Prelude.{slice_get}
use Rattle.term_core.specs.Tree.{Tree}
use Rattle.spec_core.specs.declared.records.Goal.{Goal}
use Rattle.spec_core.specs.declared.records.Spec.{Spec}
use Rattle.clause_core.specs.declared.steps.Block.{Block as BlockOf}
use Rattle.clause_core.specs.Tidied.{goal_clause}
use Rattle.routine_proof.specs.Laws.{ProvesBehindClaims}
use Rattle.routine_proof.specs.Routine.{Start, starts, IsProof, IsFirstProof}
use Rattle.routine_proof.proofs.Firsts.{first_among}
use Rattle.proof_search.specs.declared.answers.Guided.{Guided}
use Rattle.proof_search.specs.declared.answers.Guided.TheVariants.{Block, Unfinished}
use Rattle.proof_search.specs.Bounding.{IsRoutineWithin}
use Rattle.proof_search.specs.Guided.{steps_in, IsAcceptedAfter}

module _
    (above : Tree → Tree → Type 0) (behind : ProvesBehindClaims above) (spec : Spec)
    (lemmas : List ℕ) (goal : Goal) (number most : ℕ)
    (listed : slice_get spec.goals number ≡ Some goal)
  where
    -- a block that proves the goal from some start
    accepted_proof :
        (start : Start) (block : BlockOf) → IsProof above spec lemmas goal most start block.steps →
        IsAcceptedAfter above spec lemmas goal (Block block)
    accepted_proof start block proof = λ steps before known unclaimed.
        record {
          goal = goal;
          named = (number, listed, refl);
          first = unclaimed;
          shown =
              behind spec lemmas before (goal_clause goal) block.steps known proof.proves;
        }

    pub accepted_after :
        (found : Guided) → IsFirstProof above spec lemmas goal most (steps_in found) →
        IsAcceptedAfter above spec lemmas goal found
    accepted_after (Block block) first =
        let proof = first_among (IsProof above spec lemmas goal most) (starts (goal_clause goal))
        block.steps first in
        accepted_proof proof.0 block proof.1
    accepted_after Unfinished first = tt

    pub accepted_within :
        (found : Guided) → IsRoutineWithin above spec lemmas goal most found →
        IsAcceptedAfter above spec lemmas goal found
    accepted_within (Block block) proof = accepted_proof proof.0 block proof.2
    accepted_within Unfinished none = tt

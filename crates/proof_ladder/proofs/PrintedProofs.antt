-- The claims of the blocks that provers find can be written, and are accepted.
use Rattle.std.proofs.Common.{◌≡◌, ◌∙◌, ℕ, List, [], Some, refl, subst, sym}
use Rattle.std.specs.Prelude.{Contains, Result, Ok, Err, IfOk, slice_get}
use Rattle.term_core.specs.Tree.{Tree}
use Rattle.spec_core.specs.declared.records.Goal.{Goal}
use Rattle.spec_core.specs.declared.records.Spec.{Spec}
use Rattle.clause_core.specs.declared.steps.Block.{Block as BlockOf}
use Rattle.clause_core.specs.Tidied.{goal_clause}
use Rattle.acceptance.specs.Blocks.{Proves}
use Rattle.acceptance.specs.Claims.{ProvedBefore}
use Rattle.proof_script.specs.Ranges.{ClaimIsInRange}
use Rattle.block_steps.proofs.StepsInRange.{claim_in_range}
use Rattle.plain_search.specs.Plain.{IsFirstBlock}
use Rattle.proof_search.specs.declared.answers.Guided.{Guided}
use Rattle.proof_search.specs.declared.answers.Guided.TheVariants.{Block, Unfinished}
use Rattle.proof_search.specs.Bounding.{IsRoutineWithin}
use Rattle.proof_search.specs.Guided.{IsAcceptedAfter, proved_by}
use Rattle.freer_search.specs.Found.{IsFound}
use Rattle.proof_ladder.specs.Reportable.{IsReportable}

proof_in_range :
    (above : Tree → Tree → Type 0) (spec : Spec) (usable : ℕ → Type 0) (goal : Goal)
    (block : BlockOf) → Proves above spec usable (goal_clause goal) block.steps →
    ClaimIsInRange spec.sig (proved_by goal block)
proof_in_range above spec usable goal block p =
    claim_in_range above spec usable goal.name block (goal_clause goal) p.made p.makes

module _ (above : Tree → Tree → Type 0) (spec : Spec) (lemmas : List ℕ) where
  plain_block :
      (goal : Goal) (number most : ℕ) (block : BlockOf) → slice_get spec.goals number ≡ Some goal →
      IsFirstBlock above spec goal most block → IsReportable above spec lemmas goal (Block block)
  plain_block goal number most block listed p = (
    proof_in_range above spec (ProvedBefore spec []) goal block (p.proves []),
    λ steps before known unclaimed.
        record { goal = goal; named = (number, listed, refl); first = unclaimed; shown = p.proves before },
  )

  -- the goal that is read is the one of its number
  pub by_plain :
      (goal it : Goal) (number most : ℕ) (block : BlockOf) →
      slice_get spec.goals number ≡ Some goal → slice_get spec.goals number ≡ Some it →
      IsFirstBlock above spec goal most block → IsReportable above spec lemmas it (Block block)
  by_plain goal it number most block listed at p =
      let both : Some goal ≡ Some it = sym listed ∙ at in
      let same : goal ≡ it = cc in
      subst (λ (g : Goal). IsReportable above spec lemmas g (Block block)) same
      (plain_block goal number most block listed p)

  by_routine :
      (goal : Goal) (most : ℕ) (found : Guided) → IsRoutineWithin above spec lemmas goal most found →
      IsAcceptedAfter above spec lemmas goal found → IsReportable above spec lemmas goal found
  by_routine goal most (Block block) p accepted =
      (proof_in_range above spec (Contains lemmas) goal block p.2.proves, accepted)
  by_routine goal most Unfinished p accepted = tt

  by_freer :
      (goal : Goal) (most : ℕ) (found : Guided) → IsFound above spec lemmas goal most found →
      IsAcceptedAfter above spec lemmas goal found → IsReportable above spec lemmas goal found
  by_freer goal most (Block block) p accepted =
      (proof_in_range above spec (Contains lemmas) goal block p.proves, accepted)
  by_freer goal most Unfinished p accepted = tt

  pub routine_if_ok :
      {E : Type 0} (number most : ℕ) (result : Result Guided E) →
      IfOk result (λ found. (it : Goal) → slice_get spec.goals number ≡ Some it →
      IsRoutineWithin above spec lemmas it most found) →
      IfOk result (λ found. (it : Goal) → slice_get spec.goals number ≡ Some it →
      IsAcceptedAfter above spec lemmas it found) →
      IfOk result (λ found. (it : Goal) → slice_get spec.goals number ≡ Some it →
      IsReportable above spec lemmas it found)
  routine_if_ok number most (Ok found) p accepted =
      λ it at. by_routine it most found (p it at) (accepted it at)
  routine_if_ok number most (Err error) p accepted = tt

  pub freer_if_ok :
      {E : Type 0} (number most : ℕ) (result : Result Guided E) →
      IfOk result (λ found. (it : Goal) → slice_get spec.goals number ≡ Some it →
      IsFound above spec lemmas it most found) →
      IfOk result (λ found. (it : Goal) → slice_get spec.goals number ≡ Some it →
      IsAcceptedAfter above spec lemmas it found) →
      IfOk result (λ found. (it : Goal) → slice_get spec.goals number ≡ Some it →
      IsReportable above spec lemmas it found)
  freer_if_ok number most (Ok found) p accepted =
      λ it at. by_freer it most found (p it at) (accepted it at)
  freer_if_ok number most (Err error) p accepted = tt

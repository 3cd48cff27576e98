-- The block of the first plain proof of a goal.
use Rattle.std.specs.Prelude.{ℕ, ◌+◌, ◌<◌, ◌≤◌, List, Option, Some, None, length}
use Rattle.term_core.specs.Tree.{Tree}
use Rattle.term_core.specs.declared.ids.VarId.{VarId}
use Rattle.spec_core.specs.declared.records.Goal.{Goal}
use Rattle.spec_core.specs.declared.records.Spec.{Spec}
use Rattle.clause_core.specs.declared.steps.Block.{Block}
use Rattle.clause_core.specs.declared.reports.Claim.{Claim}
use Rattle.clause_core.specs.declared.reports.Outcome.TheVariants.{Proved}
use Rattle.clause_core.specs.Tidied.{goal_clause}
use Rattle.acceptance.specs.Blocks.{Proves}
use Rattle.acceptance.specs.Claims.{ProvedBefore}
use Rattle.proof_script.specs.Claims.{claim_text}
use Rattle.plain_proof.specs.FirstPlain.{IsFirstPlain}
use Rattle.plain_search.specs.Blocks.{IsPlainBlock}
use Rattle.plain_search.specs.Laws.{NamesAreShort}

-- the block of the goal's plain proof on the first variable with one of at most this length. It proves
-- the goal after any claims, and has at most one step more than that; the text of the claim has at
-- most 300,000 bytes if names are short and there are few rules
pub record IsFirstBlock (above : Tree → Tree → Type 0) (spec : Spec) (goal : Goal) (most : ℕ)
    (block : Block) : Type 0 where
  pub variable : VarId
  pub first : IsFirstPlain spec goal most (Some variable)
  pub plain : IsPlainBlock above spec goal variable.0 block.steps
  pub proves :
      (before : List Claim) →
      Proves above spec (ProvedBefore spec before) (goal_clause goal) block.steps
  pub few : length block.steps ≤ most + 1
  pub short :
      length goal.name ≤ 64 → NamesAreShort spec.sig → length spec.rules < 9999 →
      length (claim_text spec.sig (record { goal = goal.name; outcome = Proved block })) ≤ 300000

-- that block, or that no variable has a plain proof of at most this length
abbrev pub IsPlainAnswer :
    (Tree → Tree → Type 0) → Spec → Goal → ℕ → Option Block → Type 0
IsPlainAnswer above spec goal most (Some block) = IsFirstBlock above spec goal most block
IsPlainAnswer above spec goal most None = IsFirstPlain spec goal most None

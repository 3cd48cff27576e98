-- The block of a claim that is being trimmed.
use Rattle.std.specs.Prelude.{◌≡◌, ◌≤◌, ℕ, List, Some, false, length, map, slice_get, take}
use Rattle.term_core.specs.Tree.{Tree}
use Rattle.spec_core.specs.declared.records.Spec.{Spec}
use Rattle.clause_core.specs.declared.reports.Report.{Report}
use Rattle.clause_core.specs.declared.steps.Step.{Step}
use Rattle.clause_core.specs.Tidied.{goal_clause}
use Rattle.acceptance.specs.Accepting.{IsAccepted}
use Rattle.acceptance.specs.Blocks.{nodes_of}
use Rattle.acceptance.specs.Claims.{ProvedBefore}
use Rattle.acceptance.specs.Strict.{first_child}
use Rattle.block_links.specs.Links.{links_of}
use Rattle.inference_rules.specs.Answers.{clauses_of}
use Rattle.proof_script.specs.Claims.{claim_text}
use Rattle.script_trim.specs.declared.blocks.KeptBlock.{KeptBlock}
use Rattle.script_trim.specs.Fitting.{OnlyItselfFits}
use Rattle.script_trim.specs.Keys.{key_of}
use Rattle.script_trim.specs.Trimmed.{proves, with_steps, ProvedClaim}

module _ (above : Tree → Tree → Type 0) (spec : Spec) (report : Report) (number : ℕ) where
  -- the report with the steps of the block in this claim, which is on the goal of this name
  abbrev pub kept_report : List ℕ → KeptBlock → Report
  kept_report name block = with_steps report number name block.steps.items

  -- The block has the steps of a claim that is proved, the clauses of its nodes with their keys, and
  -- the links between them. The report with these steps in the claim is accepted. If the flag of a
  -- node is false, no closing step is defined there, apart from steps by the node itself. The text of
  -- the claim has at most that many bytes.
  pub record IsKept (block : KeptBlock) : Type 0 where
    pub name : List ℕ
    pub old : List Step
    pub there : slice_get report.claims number ≡ Some (proves name old)
    pub accepted : IsAccepted above spec (kept_report name block)
    pub claim : ProvedClaim above spec (kept_report name block) number
    pub steps : claim.steps ≡ block.steps.items
    pub nodes : clauses_of block.nodes.items ≡ nodes_of (goal_clause claim.goal) claim.made
    pub keys : block.keys.items ≡ map key_of (clauses_of block.nodes.items)
    pub links : block.links.items ≡ map links_of claim.made
    pub flags : length block.hopeful.items ≡ length block.steps.items
    pub hopeless :
        (i : ℕ) → slice_get block.hopeful.items i ≡ Some false →
        OnlyItselfFits above spec (ProvedBefore spec (take number report.claims))
        (clauses_of block.nodes.items) (first_child claim.made i) i
    pub text : length (claim_text spec.sig (proves name block.steps.items)) ≤ block.bytes

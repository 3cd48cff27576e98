-- What is asked of a closing step if it cuts a block, and what that leaves.
use Rattle.std.specs.Prelude.{◌≡◌, ◌⊎◌, ℕ, ◌<◌, Bool, true, false, List, Some, Contains, length, map}
use Rattle.std.specs.Prelude.{slice_get, take}
use Rattle.term_core.specs.Tree.{Tree}
use Rattle.spec_core.specs.declared.records.Spec.{Spec}
use Rattle.clause_core.specs.declared.answers.Children.{Children}
use Rattle.clause_core.specs.declared.answers.Reference.{Reference}
use Rattle.clause_core.specs.declared.clauses.Clause.{Clause}
use Rattle.clause_core.specs.declared.clauses.Relation.TheVariants.{Less}
use Rattle.clause_core.specs.declared.reports.Report.{Report}
use Rattle.clause_core.specs.declared.steps.Step.{Step}
use Rattle.acceptance.specs.AllowedAnswers.{IsWholeBlock}
use Rattle.acceptance.specs.Blocks.{StepMakes}
use Rattle.acceptance.specs.Claims.{ProvedBefore}
use Rattle.acceptance.specs.Strict.{first_child, AllAreAllowed}
use Rattle.block_links.specs.Links.{links_of}
use Rattle.inference_rules.specs.Answers.{clauses_of}
use Rattle.script_trim.specs.declared.blocks.Fit.{Fit}
use Rattle.script_trim.specs.declared.blocks.KeptBlock.{KeptBlock}
use Rattle.script_trim.specs.Closing.{closing_steps}
use Rattle.script_trim.specs.Cut.{staying}
use Rattle.script_trim.specs.Flags.{flag_of, AreInOrder, RefersWithin, TellStaying}
use Rattle.script_trim.specs.Kept.{kept_report, IsKept}
use Rattle.script_trim.specs.Made.{cut_made}
use Rattle.script_trim.specs.Trimmed.{Closes}

-- the block is one in which each node has its step, and node i is among its nodes; what closes it
-- makes references to nodes alone
pub record IsCuttable (block : KeptBlock) (i : ℕ) (closed : Children) : Type 0 where
  pub whole : IsWholeBlock block.links.items
  pub order : AreInOrder block.links.items
  pub nodes : length block.nodes.items ≡ length block.links.items
  pub keys : length block.keys.items ≡ length block.links.items
  pub flags : length block.hopeful.items ≡ length block.links.items
  pub within : i < length block.links.items
  pub refs : RefersWithin (length block.links.items) closed

-- the block that is left if node i is closed, and what closes it makes this: of each of its lists
-- what stays, with the references of links under their new numbers; and this many bytes
pub record IsLeft
    (block : KeptBlock) (i : ℕ) (closed : Children) (rest : List Step) (bytes : ℕ) (new : KeptBlock) : Type 0 where
  pub flags : List Bool
  pub told : TellStaying block.links.items i flags
  pub steps : new.steps.items ≡ rest
  pub nodes : new.nodes.items ≡ staying (flag_of flags) 0 block.nodes.items
  pub keys : new.keys.items ≡ staying (flag_of flags) 0 block.keys.items
  pub links :
      new.links.items ≡ map links_of (cut_made (flag_of flags) block.links.items i closed)
  pub hopeful : new.hopeful.items ≡ staying (flag_of flags) 0 block.hopeful.items
  pub bytes_are : new.bytes ≡ bytes

-- the answer whether everything is allowed if node i is closed, and what closes it makes this, by
-- the links of the block: it is in any case if each reference is Less
abbrev pub TellsAllowed : (ℕ → Bool) → List Children → ℕ → Children → Bool → Type 0
TellsAllowed stays links i closed true =
    ((a : ℕ) (r : Reference) → slice_get closed.refs a ≡ Some r → r.relation ≡ Less)
    ⊎ AllAreAllowed (map links_of (cut_made stays links i closed))
TellsAllowed stays links i closed false =
    AllAreAllowed (map links_of (cut_made stays links i closed)) → ⊥

module _
    (above : Tree → Tree → Type 0) (spec : Spec) (report : Report) (number : ℕ) (block : KeptBlock)
    (kept : IsKept above spec report number block) (i : ℕ) where
  -- the step is a closing step at node i, and makes this over the nodes that the steps before it make
  abbrev pub FitsAt : Fit → Type 0
  FitsAt fit =
      (c : Clause) → slice_get (clauses_of block.nodes.items) i ≡ Some c →
      Contains (closing_steps spec (clauses_of block.nodes.items) c) fit.step
      × StepMakes above spec (ProvedBefore spec (take number report.claims))
      (take (first_child kept.claim.made i) (clauses_of block.nodes.items)) i fit.step fit.made

  -- in the report with the steps of the block the step closes node i, and these steps are left
  abbrev pub ClosesAt : Step → List Step → Type 0
  ClosesAt step rest = Closes above spec (kept_report above spec report number kept.name block) number i step rest
